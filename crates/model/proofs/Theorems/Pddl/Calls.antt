-- The call that writes PDDL text, over bytes: it writes the text of an accepted table and state wherever it fits, texts that are the same
-- come from the same state, moves and goal, and the plans of the text are the lists that solve the table. Assumes nothing.
use Rattle.std.specs.Prelude.{ℕ, ◌+◌, ◌*◌, ◌≤◌, ◌<◌, ◌≡◌, ◌↔◌, List, ◌++◌, ℤ, length, take, Ok}
use Rattle.std.proofs.Math.Path.{refl, sym, ap, subst₂}
use Rattle.std.proofs.Common.{ap₂, ◌∙◌, subst, arith}
use Rattle.std.proofs.Math.Option.{Option, none, some}
use Rattle.model.specs.declared.Refusal.{Refusal}
use Rattle.model.specs.Limits.{Limits, paper}
use Rattle.model.specs.Task.{written, Task}
use Rattle.model.specs.Move.{real, Solves}
use Rattle.model.specs.Reading.{Table, Verdict, accepted, refused, only, reading}
use Rattle.model.specs.StateTable.{state_of, state_refusal, state_bytes}
use Rattle.model.specs.Calls.{Output, writes, turns, fitted, campaign_decision}
use Rattle.model.specs.Pddl.{Domain, Problem, domain_text, problem_text, domain_of, problem_of, task_text, text_with_state, text_of, pddl_text, pddl_answer, pddl_out}
use Rattle.model.specs.PddlMeaning.{IsPlan, TextPlan}
use Rattle.model.proofs.Theorems.Reading.Accepted.{reading_task}
use Rattle.model.proofs.Theorems.Reading.States.{accepted_state, state_bytes_same, state_canonical}
use Rattle.model.proofs.Theorems.Printing.Outputs.{fitted_whole, fitted_short, fitted_cases, written_part}
use Rattle.model.specs.Theorems.Campaigns.Demand3.{Given, DecideNoPlan}
use Rattle.model.proofs.Theorems.Campaigns.OneCall.{campaign_promise}
use Rattle.model.specs.Theorems.Pddl.Declared.{Declared}
use Rattle.model.proofs.Theorems.Pddl.Declared.{text_declared}
use Rattle.model.proofs.Theorems.Pddl.Plans.{plan_solves}
use Rattle.model.proofs.Theorems.Pddl.Documents.{one_document}
use Rattle.model.specs.Theorems.Pddl.Text.{conditions_of, Same}
use Rattle.model.proofs.Theorems.Pddl.Text.{whole_goal, one_text}
use Rattle.model.proofs.Theorems.Pddl.Sizes.{accepted_size}
use Rattle.model.specs.Theorems.Pddl.Calls.{SameCampaign, Wrote, state_in, task_in}

no_text : {r : Refusal} {x : List ℕ} → turns r ≡ writes x → ⊥
no_text e = let z : ◌≡◌ {A = ℕ} 0 1 = cc in omega arith

unfitted : (size : ℕ) (o : Output) {x : List ℕ} → fitted size o ≡ writes x → o ≡ writes x
unfolding fitted
unfitted size (turns r) = λ e. e
unfitted size (writes bs) {x} =
    fitted_cases size bs (λ (o : Output). o ≡ writes x → writes bs ≡ writes x) (λ h e. e) (λ h e. absurd (no_text e))

module _ (L : Limits) (t bs x : List ℕ) where
  with_state :
      (k : Table) (o : Option Refusal)
      → reading L (only written) t ≡ accepted k
      → state_refusal L k.task.props k.task.vars bs ≡ o
      → text_with_state k.task bs o ≡ writes x
      → Wrote L t bs x
  unfolding text_with_state
  with_state k (some r) read state e = absurd (no_text e)
  with_state k none read state e = record { table = k; read = read; state = state; text = cc }

  with_table : (v : Verdict) → reading L (only written) t ≡ v → text_of L v bs ≡ writes x → Wrote L t bs x
  unfolding text_of
  with_table (refused r) read e = absurd (no_text e)
  with_table (accepted k) read e = with_state k (state_refusal L k.task.props k.task.vars bs) read refl e

  -- "exactly that text is written"
  pub wrote : (size : ℕ) → pddl_text L t bs size ≡ writes x → Wrote L t bs x
  unfolding pddl_text
  wrote size e = with_table (reading L (only written) t) refl (unfitted size (text_of L (reading L (only written) t) bs) e)

-- an accepted table and an accepted state: the text is written where it fits, and 13 is answered where it does not
module _ (L : Limits) (t bs : List ℕ) (size : ℕ) {k : Table} (read : reading L (only written) t ≡ accepted k)
    (right : state_refusal L k.task.props k.task.vars bs ≡ none)
  where
    abbrev text : List ℕ
    text = task_text k.task (state_of k.task.props bs)

    answered : pddl_text L t bs size ≡ fitted size (writes text)
    unfolding pddl_text text_of text_with_state
    answered =
        ap (λ (v : Verdict). fitted size (text_of L v bs)) read
        ∙ ap (λ (o : Option Refusal). fitted size (text_with_state k.task bs o)) right

    pub text_fits : length text ≤ size → pddl_text L t bs size ≡ writes text
    text_fits h = answered ∙ fitted_whole size text h

    pub text_too_long : size < length text → pddl_text L t bs size ≡ turns (record { number = 13; place = 0 })
    text_too_long h = answered ∙ fitted_short size text h

-- ten bytes for each byte of the table and 10,000 more are enough for any state
pub text_always :
    (t bs : List ℕ) (size : ℕ) {k : Table} (read : reading paper (only written) t ≡ accepted k)
    → state_refusal paper k.task.props k.task.vars bs ≡ none
    → 10 * length t + 10_000 ≤ size
    → pddl_text paper t bs size ≡ writes (task_text k.task (state_of k.task.props bs))
text_always t bs size read right h = text_fits paper t bs size read right (omega (arith, accepted_size t bs read right))

-- an answer of n bytes: the first n bytes of the output are the text
pub wrote_part :
    (L : Limits) (t bs out : List ℕ) (n : ℕ)
    → pddl_answer L t bs out ≡ Ok n
    → Wrote L t bs (take n (pddl_out L t bs out))
unfolding pddl_answer pddl_out
wrote_part L t bs out n e =
    wrote L t bs (take n (pddl_out L t bs out)) (length out) (written_part (pddl_text L t bs (length out)) out n e)

same_text : {L : Limits} {t u bs cs x y : List ℕ} (w : Wrote L t bs x) (z : Wrote L u cs y) → x ≡ y → SameCampaign w z
same_text {L} {t} {u} {bs} {cs} w z e =
    record {
      same = same;
      goal = sym (goal_whole t w) ∙ same.goal ∙ goal_whole u z;
      state = λ all-bs all-cs.
          sym (state_canonical (accepted_state L k.props k.vars bs w.state) all-bs)
          ∙ state_bytes_same k.props k.vars (state_in w) (state_in z) same.state.has same.state.val
          ∙ ap₂ (λ (props vars : ℕ). state_bytes props vars (state_in z)) same.props same.vars
          ∙ state_canonical (accepted_state L n.props n.vars cs z.state) all-cs;
    }
  where
    k : Task
    k = task_in w

    n : Task
    n = task_in z

    same : Same k n (state_in w) (state_in z)
    same = one_text k n (state_in w) (state_in z) (w.text ∙ e ∙ sym z.text)

    goal_whole : (l : List ℕ) {ds d : List ℕ} (v : Wrote L l ds d) → conditions_of (task_in v).goal ≡ (task_in v).goal
    goal_whole l v = whole_goal (task_in v).goal (reading_task L written l v.read).goal_items

-- "Two tables with states that give the same text have the same state, moves and goal": calls whose outputs start with the same bytes,
-- as many as each answers, were given the same
pub same_output :
    (L : Limits) (t bs out u cs dest : List ℕ) (m n : ℕ)
    (first : pddl_answer L t bs out ≡ Ok m) (second : pddl_answer L u cs dest ≡ Ok n)
    → take m (pddl_out L t bs out) ≡ take n (pddl_out L u cs dest)
    → SameCampaign (wrote_part L t bs out m first) (wrote_part L u cs dest n second)
same_output L t bs out u cs dest m n first second =
    same_text (wrote_part L t bs out m first) (wrote_part L u cs dest n second)

-- ---- the plans of the text
module _ {L : Limits} {t bs x : List ℕ} (w : Wrote L t bs x) where
  -- every name of the text is declared, each fluent has its one value, and no action names a thing twice in its effects
  pub declared : (d : Domain) (p : Problem) → domain_text d ++ problem_text p ≡ x → Declared d p
  unfolding task_text
  declared d p e =
      let same = one_document (domain_of (task_in w)) d (problem_of (task_in w) (state_in w)) p (w.text ∙ sym e) in
      subst₂ Declared same.0 same.1 (text_declared (reading_task L written t w.read) (state_in w))

  -- A list of actions is a plan of the text exactly when the list of moves solves the table from the state.
  pub text_plans : (ms : List ℕ) → TextPlan x ms ↔ Solves real (task_in w) (state_in w) ms
  unfolding task_text
  text_plans ms = (
    λ p.
        let same = one_document p.domain domain p.problem problem (p.text ∙ sym w.text) in
        solves.0 (subst₂ (λ (d : Domain) (q : Problem). IsPlan d q ms) same.0 same.1 p.plan),
    λ solved. record { domain = domain; problem = problem; text = w.text; plan = solves.1 solved },
  )
    where
      domain : Domain
      domain = domain_of (task_in w)

      problem : Problem
      problem = problem_of (task_in w) (state_in w)

      solves : IsPlan (domain_of (task_in w)) (problem_of (task_in w) (state_in w)) ms ↔ Solves real (task_in w) (state_in w) ms
      solves = plan_solves (task_in w) (state_in w) (reading_task L written t w.read) ms

-- Where normalise and decide in one call answer "no plan", the text has no plan.
pub no_plan_text :
    {t bs x normalOut : List ℕ} {layers : List ℤ} {out : List ℕ}
    → Wrote paper t bs x
    → Given t bs normalOut layers out
    → DecideNoPlan (campaign_decision paper t bs normalOut layers)
    → (ms : List ℕ)
    → TextPlan x ms
    → ⊥
no_plan_text {t} {bs} {x} {normalOut} {layers} {out} w g answer ms p =
    let same : w.table ≡ g.table = cc (w.read, g.read) in
    ((campaign_promise t bs normalOut layers out).claim g).unsolvable answer ms
    (subst (λ (k : Table). Solves real k.task (state_of k.task.props bs) ms) same ((text_plans w ms).0 p))
