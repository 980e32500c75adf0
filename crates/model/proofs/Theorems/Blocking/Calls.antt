-- The goal part that blocks, from the bytes of a normal table and a state to the answer: what an offset means, and that the answers are
-- those of decide case by case: a part where decide answers "no plan", nothing where it answers a layer, the same refusals, the same
-- layer memory. For all inputs. Assumes nothing.
use Rattle.std.specs.Prelude.{ℕ, ◌/◌, ◌≤◌, ◌<◌, ◌≡◌, ◌↔◌, ◌⊎◌, List, ℤ, length, get_or, Option, Some, None, Result, Ok, Err}
use Rattle.std.proofs.Math.Path.{refl}
use Rattle.std.proofs.Common.{sym, ap, ap₂, ◌∙◌, subst, subst₂}
use Rattle.std.proofs.Math.Option.{none}
use Rattle.integer.specs.BigEndian.{AllBytes}
use Rattle.model.specs.declared.Refusal.{Refusal}
use Rattle.model.specs.declared.DecideAnswer.{DecideAnswer}
use Rattle.model.specs.declared.DecideAnswer.TheVariants as decide
use Rattle.model.specs.Limits.{paper}
use Rattle.model.specs.Task.{normal}
use Rattle.model.specs.Command.{task_bytes}
use Rattle.model.specs.Layer.{layer_at, meets_goal, Exhausted, reached, exhausted}
use Rattle.model.specs.Reading.{Table, accepted, only, reading}
use Rattle.model.specs.StateTable.{state_refusal}
use Rattle.model.specs.Memory.{Built, answered, stopped, build}
use Rattle.model.specs.Calls.{Ready, decided, decide_of, decide_answer, decide_memory}
use Rattle.model.specs.Blocking.{part_offset, unmet_answer, blocked, blocking_of, blocking_answer, blocking_memory}
use Rattle.model.proofs.Theorems.Laws.Booleans.{clash}
use Rattle.model.proofs.Theorems.Reading.Accepted.{reading_length, reading_canonical, reading_form, reading_task}
use Rattle.model.proofs.Theorems.Layers.Answer.{outcome_exhausted}
use Rattle.model.proofs.Theorems.Layers.Building.{built_outcome}
use Rattle.model.specs.Theorems.Campaigns.Demand3.{layer_zero, DecideNoPlan}
use Rattle.model.proofs.Theorems.Campaigns.EndToEnd.{prepared_cases}
use Rattle.model.specs.Theorems.Blocking.Parts.{FirstUnmet}
use Rattle.model.proofs.Theorems.Blocking.Parts.{first_one, first_unmet_holds, unmet_some, offset_inside, part_code}
use Rattle.model.specs.Theorems.Blocking.Calls.{Blocks}

module _ {t bs : List ℕ} {d : Result DecideAnswer Refusal} where
  -- one offset blocks at most
  pub blocks_one : {o p : ℕ} → Blocks t bs d o → Blocks t bs d p → o ≡ p
  blocks_one {o} {p} a b =
      let tables : b.table ≡ a.table = cc (a.read, b.read) in
      let layers : b.layers ≡ a.layers = cc (a.decides, b.decides) in
      let first = subst₂ (λ (w : Table) (m : ℕ). FirstUnmet w.task (layer_at w.task (layer_zero w bs) m) b.part) tables layers b.first in
      a.offset ∙ ap₂ (λ (w : Table) (n : ℕ). part_offset w.task n) (sym tables) (first_one a.first first) ∙ sym b.offset

  module _ {o : ℕ} (a : Blocks t bs d o) where
    abbrev table_form : a.table.header.form ≡ normal
    table_form = reading_form paper normal t a.read

    -- "the offset, in the normal table": within it, behind its head and its 47,
    pub blocks_inside : (5 ≤ o) × (o < length t)
    blocks_inside =
        let inside = offset_inside a.table.task a.part a.first.inside in
        let long = rw table_form at (reading_length paper (only normal) t a.read) in
        rw (a.offset, long) inside

    -- and the byte there is a 50 or a 43
    pub blocks_command : AllBytes t → (get_or t o 0 ≡ 0x50) ⊎ (get_or t o 0 ≡ 0x43)
    blocks_command all =
        let same : t ≡ task_bytes normal a.table.task = rw table_form at (reading_canonical paper (only normal) t a.read all) in
        rw (a.offset, same) (part_code a.table.task a.part a.first.inside (reading_task paper normal t a.read).goal_items)

-- ---- case by case with decide
module _ (t bs : List ℕ) (mem : List ℤ) where
  -- the answers of decide and of blocking are one of three pairs: what holds of each pair holds of theirs
  pub answers_cases :
      (P : Result DecideAnswer Refusal → Result (Option ℕ) Refusal → Type 0)
      → ((m : ℕ) → P (Ok (decide.Plan m m)) (Ok None))
      → ((d : Result DecideAnswer Refusal) (o : ℕ) → Blocks t bs d o → P d (Ok (Some o)))
      → ((r : Refusal) → P (Err r) (Err r))
      → P (decide_answer paper t bs mem) (blocking_answer paper t bs mem)
  unfolding decide_answer blocking_answer decide_of blocking_of decided blocked unmet_answer meets_goal
  answers_cases P planned unplanned refused =
      prepared_cases (λ (r : Ready). P (decide_of paper (length mem) r) (blocking_of paper (length mem) r)) t bs
      (λ w e state. by_built w e state (build paper w.task (layer_zero w bs) (length mem)) refl) refused
    where
      by_built :
          (w : Table) → reading paper (only normal) t ≡ accepted w
          → state_refusal paper w.task.props (w.task.vars / 2) bs ≡ none
          → (b : Built) → build paper w.task (layer_zero w bs) (length mem) ≡ b
          → P (decided b) (blocked w.task (layer_zero w bs) b)
      by_built w e state (answered (reached m)) h = planned m
      by_built w e state (answered (exhausted m)) h =
          let end : Exhausted w.task (layer_zero w bs) m =
          (outcome_exhausted (reading_task paper normal t e) (layer_zero w bs) m).0
          (sym (built_outcome paper w.task (layer_zero w bs) (length mem) (exhausted m) h)) in
          let l = layer_at w.task (layer_zero w bs) m in
          let found = unmet_some w.task l end.unmet in
          rw found.1
          (unplanned (Ok (decide.NoPlan m)) (part_offset w.task found.0)
          (record {
            table = w;
            read = e;
            state = state;
            layers = m;
            decides = refl;
            exhausted = end;
            part = found.0;
            first = (first_unmet_holds w.task l found.0).0 found.1;
            offset = refl;
          }))
      by_built w e state (stopped n m) h = refused (record { number = n; place = m })

  -- the answer is offset o exactly where the record above holds of it
  pub blocks_means : (o : ℕ) → (blocking_answer paper t bs mem ≡ Ok (Some o)) ↔ Blocks t bs (decide_answer paper t bs mem) o
  blocks_means o = (
    answers_cases (λ d b. b ≡ Ok (Some o) → Blocks t bs d o) (λ m e. clash cc)
        (λ d p a e. let same : p ≡ o = cc in subst (Blocks t bs d) same a) (λ r e. clash cc),
    answers_cases (λ d b. Blocks t bs d o → b ≡ Ok (Some o)) (λ m a. clash (cc a.decides))
        (λ d p a b. ap (λ (o : ℕ). Ok (Some o)) (blocks_one a b)) (λ r a. clash (cc a.decides)),
  )

  -- "When a campaign comes back as "no plan"": there is an offset where decide answers so, and nowhere else
  pub blocks_where : ((o : ℕ) × (blocking_answer paper t bs mem ≡ Ok (Some o))) ↔ DecideNoPlan (decide_answer paper t bs mem)
  blocks_where = (
    answers_cases (λ d b. (o : ℕ) × (b ≡ Ok (Some o)) → DecideNoPlan d) (λ m e. clash (cc e.1))
        (λ d o a e. record { layers = a.layers; is = a.decides }) (λ r e. clash (cc e.1)),
    answers_cases (λ d b. DecideNoPlan d → (o : ℕ) × (b ≡ Ok (Some o))) (λ m e. clash (cc e.is))
        (λ d o a e. (o, refl)) (λ r e. clash (cc e.is)),
  )

  -- "If decide answers otherwise, the tool says that nothing blocks."
  pub nothing_where : (blocking_answer paper t bs mem ≡ Ok None) ↔ ((m : ℕ) × (decide_answer paper t bs mem ≡ Ok (decide.Plan m m)))
  nothing_where = (
    answers_cases (λ d b. b ≡ Ok None → (m : ℕ) × (d ≡ Ok (decide.Plan m m))) (λ m e. (m, refl)) (λ d o a e. clash cc) (λ r e. clash cc),
    answers_cases (λ d b. (m : ℕ) × (d ≡ Ok (decide.Plan m m)) → b ≡ Ok None) (λ m e. refl)
        (λ d o a e. clash (cc (e.1, a.decides))) (λ r e. clash (cc e.1)),
  )

  -- "Refusals and layer memory are those of decide."
  pub refused_where : (r : Refusal) → (blocking_answer paper t bs mem ≡ Err r) ↔ (decide_answer paper t bs mem ≡ Err r)
  refused_where r = (
    answers_cases (λ d b. b ≡ Err r → d ≡ Err r) (λ m e. clash cc) (λ d o a e. clash cc) (λ q e. cc),
    answers_cases (λ d b. d ≡ Err r → b ≡ Err r) (λ m e. clash cc) (λ d o a e. clash (cc a.decides)) (λ q e. cc),
  )

  pub same_memory : blocking_memory paper t bs mem ≡ decide_memory paper t bs mem
  unfolding blocking_memory
  same_memory = refl
