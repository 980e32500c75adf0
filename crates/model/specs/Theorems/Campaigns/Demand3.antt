-- Demand 3, as one theorem from the bytes of a written table and of a state to the answers of normalise, decide and plan.
-- Assumes nothing.
use Rattle.std.specs.Prelude.{ℕ, ◌*◌, ◌≤◌, ◌≡◌, ◌↔◌, false, List, map, ℤ, length, Result, Ok, Err}
use Rattle.std.proofs.Math.Option.{Option, none, some}
use Rattle.model.specs.Limits.{paper}
use Rattle.model.specs.Task.{written, Task}
use Rattle.model.specs.Move.{State, Solves, real, relaxed}
use Rattle.model.specs.NormalForm.{normal_task, normal_state}
use Rattle.model.specs.Layer.{Reached, Exhausted, Outcome, reported, outcome}
use Rattle.model.specs.Reading.{Table, accepted, only, reading}
use Rattle.model.specs.StateTable.{state_of, state_refusal}
use Rattle.model.specs.Memory.{room, wrong15, answered, overwrite}
use Rattle.model.specs.Plan.{Record, records, helpful_moves, move_and_count, plan_list}
use Rattle.integer.specs.BigEndian.{AllBytes}
use Rattle.model.specs.Calls.{normal_bytes, plan_records, record_bytes, records_read}
use Rattle.model.specs.declared.Refusal.{Refusal}
use Rattle.model.specs.declared.DecideAnswer.{DecideAnswer}
use Rattle.model.specs.declared.DecideAnswer.TheVariants as decide
use Rattle.model.specs.declared.PlanAnswer.{PlanAnswer}
use Rattle.model.specs.declared.PlanAnswer.TheVariants as plan

-- "The relaxed task is the normal table run with relaxed moves from layer 0."
abbrev pub relaxed_task : Table → Task
relaxed_task w = normal_task w.task

-- the state that the table is run from as written, and layer 0
abbrev pub start_state : Table → List ℕ → State
start_state w bs = state_of w.task.props bs

abbrev pub layer_zero : Table → List ℕ → State
layer_zero w bs = normal_state (start_state w bs)

abbrev pub end_of : Table → List ℕ → Outcome
end_of w bs = outcome (relaxed_task w) (layer_zero w bs)

-- The premises of demand 3, for a written table t, a state bs, and memories for the normal form, the layers and the plan.
pub record Given (t bs normalOut : List ℕ) (layers : List ℤ) (out : List ℕ) : Type 0 where
  -- "Accepted means there that no check of table or state refuses them."
  pub table : Table
  pub read : reading paper (only written) t ≡ accepted table
  pub state : state_refusal paper table.task.props table.task.vars bs ≡ none
  -- "Room means the normal form's bytes, P + A + N × (reported layers + 1) numbers of layer memory, with the counts of the
  -- normal head, and 10 bytes a record of the plan defined above, none with "no plan"."
  pub normal_room : length (normal_bytes table.task) ≤ length normalOut
  pub layer_room : room (relaxed_task table) (reported (end_of table bs)) ≤ length layers
  pub plan_room :
      10 * length (plan_records (relaxed_task table) (layer_zero table bs) (answered (end_of table bs))) ≤ length out
  -- no finite layer value passes 1,000,000,000,000
  pub small :
      (u : ℕ) → u ≤ reported (end_of table bs) → wrong15 paper (relaxed_task table) (layer_zero table bs) u ≡ false

-- "no plan" as decide's and as plan's answer
pub record DecideNoPlan (r : Result DecideAnswer Refusal) : Type 0 where
  pub layers : ℕ
  pub is : r ≡ Ok (decide.NoPlan layers)

pub record PlanNoPlan (r : Result PlanAnswer Refusal) : Type 0 where
  pub layers : ℕ
  pub is : r ≡ Ok (plan.NoPlan layers 0 0)

-- the reported layers of an answer
unfoldable pub decide_layers : Result DecideAnswer Refusal → Option ℕ
decide_layers (Ok (decide.Plan layer layers)) = some layers
decide_layers (Ok (decide.NoPlan layers)) = some layers
decide_layers (Err r) = none

unfoldable pub plan_layers : Result PlanAnswer Refusal → Option ℕ
plan_layers (Ok (plan.Plan layer layers records moves)) = some layers
plan_layers (Ok (plan.NoPlan layers records moves)) = some layers
plan_layers (Err r) = none

-- the records of the plan that document 01 defines
abbrev pub records_of : Table → List ℕ → ℕ → List Record
records_of w bs layer = records (relaxed_task w) (layer_zero w bs) layer

-- "no plan": the reported layers, and that nothing is written
pub record NotFound (w : Table) (bs : List ℕ) (d : Result DecideAnswer Refusal) (p : Result PlanAnswer Refusal) (before after : List ℕ) : Type 0 where
  pub layers : ℕ
  -- "with "no plan", the first t whose next layer equals layer t"; no layer up to it meets the goal
  pub exhausted : Exhausted (relaxed_task w) (layer_zero w bs) layers
  pub decides : d ≡ Ok (decide.NoPlan layers)
  pub plans : p ≡ Ok (plan.NoPlan layers 0 0)
  -- "it writes no plan bytes"
  pub kept : after ≡ before

-- "otherwise": the answer layer, the records and the list
pub record Found (w : Table) (bs : List ℕ) (d : Result DecideAnswer Refusal) (p : Result PlanAnswer Refusal) (before after : List ℕ) : Type 0 where
  pub layer : ℕ
  -- it is the first layer that meets the goal, and no layer before it equals its next one
  pub answer_layer : Reached (relaxed_task w) (layer_zero w bs) layer
  pub decides : d ≡ Ok (decide.Plan layer layer)
  pub plans : p ≡ Ok (plan.Plan layer layer (length (records_of w bs layer)) (helpful_moves (relaxed_task w) (layer_zero w bs) layer))
  -- the output holds the records, and nothing behind them is changed
  pub output : after ≡ overwrite (record_bytes (records_of w bs layer)) before
  pub bytes : AllBytes (record_bytes (records_of w bs layer))
  -- read back from the output, as many records as plan answers are these,
  pub read : records_read (length (records_of w bs layer)) after ≡ some (map move_and_count (records_of w bs layer))
  -- and the list of what is read back solves the relaxed task
  pub solves : Solves relaxed (relaxed_task w) (layer_zero w bs) (plan_list (map move_and_count (records_of w bs layer)))

-- What demand 3 says of a table, a state and the answers of normalise (a, with the bytes nb that it leaves), decide (d) and plan (p, with
-- its output before and after), of whatever calls these are: the full ones, or those under a ceiling.
pub record Answers
    (w : Table) (bs : List ℕ) (a : Result ℕ Refusal) (nb : List ℕ) (d : Result DecideAnswer Refusal) (p : Result PlanAnswer Refusal) (before after : List ℕ) : Type 0 where
  -- normalise writes the normal form; nb, which decide and plan are given, is it
  pub normalise : a ≡ Ok (length (normal_bytes w.task))
  pub normal_form : nb ≡ normal_bytes w.task
  -- "no plan" exactly when no list of any length solves the relaxed task
  pub decide_no_plan : DecideNoPlan d ↔ ((list : List ℕ) → Solves relaxed (relaxed_task w) (layer_zero w bs) list → ⊥)
  pub plan_no_plan : PlanNoPlan p ↔ ((list : List ℕ) → Solves relaxed (relaxed_task w) (layer_zero w bs) list → ⊥)
  -- and then none solves the table as written
  pub unsolvable : DecideNoPlan d → (list : List ℕ) → Solves real w.task (start_state w bs) list → ⊥
  -- both give the reported layers
  pub decide_reports : decide_layers d ≡ some (reported (end_of w bs))
  pub plan_reports : plan_layers p ≡ some (reported (end_of w bs))
  -- with "no plan" these are the first layer whose next one equals it
  pub not_found : DecideNoPlan d → NotFound w bs d p before after
  -- otherwise the answer layer and the records, whose list solves the relaxed task
  pub found : (DecideNoPlan d → ⊥) → Found w bs d p before after
