-- A yes and "no plan" never meet: where decide says "no plan" of a table and a state, in whatever memories, no list is a yes. Assumes nothing.
use Rattle.std.specs.Prelude.{ℕ, ◌/◌, ◌≡◌, Bool, true, false, ltb, ℤ, length, Ok, Err}
use Rattle.std.proofs.Math.Path.{refl, subst}
use Rattle.std.proofs.Common.{sym}
use mathlib.Core.List.{List}
use Rattle.std.proofs.Math.Option.{Option, none, some}
use Rattle.model.specs.declared.Refusal.{Refusal}
use Rattle.model.specs.declared.DecideAnswer.TheVariants as decide
use Rattle.model.specs.Limits.{paper}
use Rattle.model.specs.Task.{written, Task}
use Rattle.model.specs.Reading.{Table, Verdict, accepted, only, reading}
use Rattle.model.specs.Move.{State}
use Rattle.model.specs.NormalForm.{normal_task, normal_state}
use Rattle.model.specs.StateTable.{state_of, state_refusal}
use Rattle.model.specs.Layer.{reached, exhausted}
use Rattle.model.specs.Memory.{Built, answered, stopped, build}
use Rattle.model.specs.Calls.{Output, writes, turns, on_output, fitted, normal_bytes, normal_of, normalised, ready_with, ready_of, prepared, decided, decide_of, decide_answer, campaign_decision}
use Rattle.model.specs.Theorems.Reading.WellFormed.{TaskOk}
use Rattle.model.proofs.Theorems.Reading.Accepted.{reading_task}
use Rattle.model.proofs.Theorems.Layers.Relaxation.{real_solves_relaxed}
use Rattle.model.proofs.Theorems.Layers.Answer.{exhausted_no_plan}
use Rattle.model.proofs.Theorems.Layers.Building.{built_outcome}
use Rattle.model.proofs.Theorems.NormalForm.Task.{normal_ok}
use Rattle.model.proofs.Theorems.NormalForm.Moves.{written_normal}
use Rattle.model.specs.Theorems.NormalForm.Print.{normal_table}
use Rattle.model.proofs.Theorems.NormalForm.Print.{normal_accepted}
use Rattle.schedule.specs.declared.CheckAnswer.TheVariants as check
use Rattle.schedule.specs.Check.{check_answer}
use Rattle.schedule.specs.Theorems.Answers.{Given, start_of}
use Rattle.schedule.proofs.Theorems.Calls.{state_length, yes_call}
use Rattle.schedule.specs.Theorems.NoPlan.{Meant, Unsolvable}

-- what is fitted is written whole, or turns back
abbrev FittedTo : List ℕ → Output → Type 0
FittedTo bs (writes cs) = cs ≡ bs
FittedTo bs (turns r) = Unit {0}

fitted_cases : (size : ℕ) (bs : List ℕ) → FittedTo bs (fitted size (writes bs))
unfolding fitted
fitted_cases size bs = go (ltb size (length bs))
  where
    go : (b : Bool) → FittedTo bs (elim b [ true ↦ turns (record { number = 13; place = 0 }) | false ↦ writes bs ])
    go true = tt
    go false = refl

module _ (k : Task) (ok : TaskOk paper written k) (size : ℕ) where
  built_means : (s : State) (b : Built) → build paper (normal_task k) (normal_state s) size ≡ b → Meant k s (decided b)
  unfolding decided
  built_means s (answered (reached m)) e = tt
  built_means s (answered (exhausted m)) e = λ list solves.
      exhausted_no_plan (normal_ok paper k ok) (normal_state s) m (sym (built_outcome paper (normal_task k) (normal_state s) size (exhausted m) e)) list
      (real_solves_relaxed (normal_ok paper k ok) (normal_state s) list ((written_normal k list s).0 solves))
  built_means s (stopped n m) e = tt

  ready_means : (bs : List ℕ) (o : Option Refusal) → Meant k (state_of k.props bs) (decide_of paper size (ready_with (normal_task k) bs o))
  unfolding decide_of ready_with normal_task
  ready_means bs none = built_means (state_of k.props bs) (build paper (normal_task k) (normal_state (state_of k.props bs)) size) refl
  ready_means bs (some r) = tt

module _ (t : List ℕ) {w : Table} (e : reading paper (only written) t ≡ accepted w) (bs : List ℕ) where
  -- decide's answer on the normal form of a written table
  pub decide_means : (layers : List ℤ) → Meant w.task (start_of w bs) (decide_answer paper (normal_bytes w.task) bs layers)
  unfolding decide_answer prepared ready_of normal_table
  decide_means layers =
      let k = w.task in
      subst (λ (v : Verdict). Meant k (start_of w bs) (decide_of paper (length layers) (ready_of paper v bs))) (sym (normal_accepted t e))
      (ready_means k (reading_task paper written t e) (length layers) bs (state_refusal paper (normal_task k).props ((normal_task k).vars / 2) bs))

  -- and in one call, whatever memories are lent
  pub campaign_means : (normalOut : List ℕ) (layers : List ℤ) → Meant w.task (start_of w bs) (campaign_decision paper t bs normalOut layers)
  unfolding campaign_decision on_output normalised normal_of
  campaign_means normalOut layers =
      subst (λ (v : Verdict). Meant w.task (start_of w bs) (on_output (fitted (length normalOut) (normal_of v)) (λ nb. decide_answer paper nb bs layers) (λ r. Err r)))
      (sym e) (go (fitted (length normalOut) (writes (normal_bytes w.task))) (fitted_cases (length normalOut) (normal_bytes w.task)))
    where
      go : (o : Output) → FittedTo (normal_bytes w.task) o → Meant w.task (start_of w bs) (on_output o (λ nb. decide_answer paper nb bs layers) (λ r. Err r))
      go (writes nb) is = subst (λ (x : List ℕ). Meant w.task (start_of w bs) (decide_answer paper x bs layers)) (sym is) (decide_means layers)
      go (turns r) is = tt

-- a list that the checker says yes to is none where decide says "no plan"
pub yes_and_no_plan :
    {t bs : List ℕ} {w : Table} (g : Given paper t bs w) (ms out normalOut : List ℕ) (layers : List ℤ) {m : ℕ}
    → check_answer paper t bs ms out ≡ Ok (check.Yes (state_length paper g ms out))
    → campaign_decision paper t bs normalOut layers ≡ Ok (decide.NoPlan m)
    → ⊥
yes_and_no_plan {t} {bs} {w} g ms out normalOut layers said no_plan =
    let never : Unsolvable w.task (start_of w bs) = subst (Meant w.task (start_of w bs)) no_plan (campaign_means t g.table bs normalOut layers) in
    never ms ((yes_call paper g ms out).0 said).0.solves
