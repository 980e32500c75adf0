-- The set of helpful moves in plan's answer, from the bytes of a table and a state (document 02, request 6): of a normal table for all
-- inputs, and of a written table where demand 3 finds a plan. Assumes nothing.
use Rattle.std.specs.Prelude.{ℕ, ◌/◌, ◌<◌, ◌≡◌, refl, Bool, ◌↔◌, List, T, ℤ, length, Result, Ok, Err}
use Rattle.std.proofs.Common.{sym, subst, subst₂, ◌∙◌, lt-ltb}
use Rattle.std.proofs.Math.Path.{ap}
use Rattle.std.proofs.Math.Bool.{true, false}
use Rattle.std.proofs.Math.Option.{none}
use Rattle.model.specs.declared.Refusal.{Refusal}
use Rattle.model.specs.declared.DecideAnswer.{DecideAnswer}
use Rattle.model.specs.declared.PlanAnswer.{PlanAnswer}
use Rattle.model.specs.declared.PlanAnswer.TheVariants as plan
use Rattle.model.specs.Limits.{Limits, paper}
use Rattle.model.specs.Task.{written, normal, Task}
use Rattle.model.specs.Move.{State, applicable, real, move_at}
use Rattle.model.specs.Layer.{Reached, reached, exhausted}
use Rattle.model.specs.Reading.{Table, accepted, only, reading}
use Rattle.model.specs.StateTable.{state_refusal}
use Rattle.model.specs.Memory.{Built, answered, stopped, build}
use Rattle.model.specs.Plan.{Record, records, bit, helpful_moves}
use Rattle.model.specs.Calls.{turns, result_of, moved, step_with_state, step_of, Ready, planned, plan_of, plan_answer}
use Rattle.model.specs.Theorems.Reading.WellFormed.{All, TaskOk}
use Rattle.model.proofs.Theorems.Reading.Accepted.{reading_task}
use Rattle.model.proofs.Theorems.Laws.Booleans.{T_true}
use Rattle.model.proofs.Theorems.Printing.Outputs.{plan_cases}
use Rattle.model.proofs.Theorems.NormalForm.Moves.{normal_moves, move_applicable}
use Rattle.model.proofs.Theorems.NormalForm.Task.{normal_ok}
use Rattle.model.proofs.Theorems.Layers.Answer.{outcome_reached}
use Rattle.model.proofs.Theorems.Layers.Building.{built_outcome}
use Rattle.model.specs.Theorems.Campaigns.Demand3.{relaxed_task, start_state, layer_zero, Found}
use Rattle.model.proofs.Theorems.Campaigns.EndToEnd.{prepared_cases}
use Rattle.model.proofs.Theorems.Helpful.Taken.{taken_helpful}
use Rattle.model.proofs.Theorems.Helpful.NeverEmpty.{helpful_empty}
use Rattle.model.proofs.Theorems.Helpful.Meaning.{Helpful, helpful_means, helpful_applicable}

-- what x, the set for answer layer m, has to be
pub record SetRight (k : Task) (s : State) (m x : ℕ) : Type 0 where
  -- bit b is set exactly if move b is helpful,
  pub means : (b : ℕ) → T (bit x b) ↔ Helpful k s m b
  -- its conditions then hold in the state,
  pub allowed : (b : ℕ) → T (bit x b) → (b < length k.moves) × T (applicable s (move_at k b))
  -- every move that the plan takes at layer 0 is in it,
  pub taken : All (λ (r : Record). r.layer ≡ 0 → T (bit x r.move)) (records k s m)
  -- and it is empty exactly with answer layer 0
  pub empty : (x ≡ 0) ↔ (m ≡ 0)

pub set_right : {L : Limits} {k : Task} (ok : TaskOk L normal k) (s : State) (m : ℕ) → Reached k s m → SetRight k s m (helpful_moves k s m)
set_right {L} {k} ok s m a =
    record {
      means = helpful_means ok s m;
      allowed = helpful_applicable ok s m;
      taken = taken_helpful k s m;
      empty = helpful_empty ok s m a;
    }

-- ---- normal tables, for all inputs
pub record PlanSet (t bs : List ℕ) (m x : ℕ) : Type 0 where
  pub table : Table
  pub read : reading paper (only normal) t ≡ accepted table
  pub state : state_refusal paper table.task.props (table.task.vars / 2) bs ≡ none
  pub answer_layer : Reached table.task (layer_zero table bs) m
  pub right : SetRight table.task (layer_zero table bs) m x

-- what an answer says of the set: with "no plan" it is empty
abbrev pub SetOfAnswer : List ℕ → List ℕ → Result PlanAnswer Refusal → Type 0
SetOfAnswer t bs (Ok (plan.Plan layer layers n x)) = PlanSet t bs layer x
SetOfAnswer t bs (Ok (plan.NoPlan layers n x)) = x ≡ 0
SetOfAnswer t bs (Err r) = Unit {0}

pub plan_set : (t bs : List ℕ) (mem : List ℤ) (out : List ℕ) → SetOfAnswer t bs (plan_answer paper t bs mem out)
unfolding plan_answer plan_of planned
plan_set t bs mem out =
    prepared_cases (λ (r : Ready). SetOfAnswer t bs (plan_of paper (length mem) (length out) r)) t bs
    (λ w e state.
    let b = build paper w.task (layer_zero w bs) (length mem) in
    plan_cases (length out) w.task (layer_zero w bs) b (SetOfAnswer t bs) (λ whole. by_built w e state b refl) tt)
    (λ r. tt)
  where
    by_built :
        (w : Table) → reading paper (only normal) t ≡ accepted w
        → state_refusal paper w.task.props (w.task.vars / 2) bs ≡ none
        → (b : Built) → build paper w.task (layer_zero w bs) (length mem) ≡ b
        → SetOfAnswer t bs (planned w.task (layer_zero w bs) b)
    by_built w e state (answered (reached m)) h =
        let ok = reading_task paper normal t e in
        let a = (outcome_reached ok (layer_zero w bs) m).0 (sym (built_outcome paper w.task (layer_zero w bs) (length mem) (reached m) h)) in
        record { table = w; read = e; state = state; answer_layer = a; right = set_right ok (layer_zero w bs) m a }
    by_built w e state (answered (exhausted m)) h = refl
    by_built w e state (stopped n m) h = tt

-- ---- written tables, where demand 3 finds a plan
module _ (t bs : List ℕ) {w : Table} (e : reading paper (only written) t ≡ accepted w) {d : Result DecideAnswer Refusal} {p : Result PlanAnswer Refusal} {before after : List ℕ} (f : Found w bs d p before after) {layer layers n x : ℕ} (is : p ≡ Ok (plan.Plan layer layers n x)) where
  -- the set that plan answers, of the relaxed task
  pub found_set : SetRight (relaxed_task w) (layer_zero w bs) layer x
  found_set =
      let same_layer_lem : f.layer ≡ layer = cc f.plans in
      let same_set : helpful_moves (relaxed_task w) (layer_zero w bs) f.layer ≡ x = cc f.plans in
      subst₂ (SetRight (relaxed_task w) (layer_zero w bs)) same_layer_lem same_set
      (set_right (normal_ok paper w.task (reading_task paper written t e)) (layer_zero w bs) f.layer f.answer_layer)

  -- a helpful move's conditions hold in the written state
  pub found_allowed : (b : ℕ) → T (bit x b) → (b < length w.task.moves) × T (applicable (start_state w bs) (move_at w.task b))
  found_allowed b h =
      let a = found_set.allowed b h in
      (rw (normal_moves w.task) at a.0, subst T (move_applicable w.task b (start_state w bs)) a.1)

  -- so step runs it: neither 10 nor 11, and 12 only for what it gives
  pub found_steps :
      (b : ℕ) → T (bit x b) → state_refusal paper w.task.props w.task.vars bs ≡ none
      → step_of paper (accepted w) bs b ≡ result_of paper w.task.props w.task.vars (real (move_at w.task b) (start_state w bs))
  unfolding step_of step_with_state moved
  found_steps b h state =
      let a = found_allowed b h in
      let k = w.task in
      let s = start_state w bs in
      ap (step_with_state paper k bs b) state
      ∙ ap (λ (inside : Bool). elim inside [ true ↦ moved paper k s b | false ↦ turns (record { number = 10; place = 0 }) ]) (lt-ltb b (length k.moves) a.0)
      ∙ ap (λ (holds : Bool). elim holds [ true ↦ result_of paper k.props k.vars (real (move_at k b) s) | false ↦ turns (record { number = 11; place = 0 }) ]) (T_true (applicable s (move_at k b)) a.1)
