-- The goal part that blocks, from bytes to its answer: an offset is the true reason, in the normal table and in the written table that it
-- is the normal form of; there is one exactly when no list solves the relaxed task.
-- Assumes nothing.
use Rattle.std.specs.Prelude.{ℕ, ◌/◌, ◌≡◌, List, Option, Some, None, Result, Ok, Err}
use Rattle.std.proofs.Math.Option.{none}
use Rattle.model.specs.Limits.{paper}
use Rattle.model.specs.Lists.{In}
use Rattle.model.specs.Task.{normal, Block, Task}
use Rattle.model.specs.NormalForm.{normal_task}
use Rattle.model.specs.Move.{State, real, relaxed, Solves}
use Rattle.model.specs.Reading.{Table, accepted, only, reading}
use Rattle.model.specs.StateTable.{state_refusal}
use Rattle.model.specs.Blocking.{goal_part, part_offset}
use Rattle.model.specs.Theorems.Campaigns.Demand3.{relaxed_task, start_state, layer_zero}
use Rattle.model.specs.Theorems.Blocking.Goals.{with_goal}
use Rattle.model.specs.Theorems.Blocking.Reason.{FirstUnreachable}
use Rattle.model.specs.Theorems.Blocking.Written.{CameFrom}
use Rattle.model.specs.declared.Refusal.{Refusal}

-- ---- the reason, in the normal table

-- The part of a normal task that blocks, from layer 0, with its offset.
pub record Blocker (k : Task) (s : State) (offset : ℕ) : Type 0 where
  pub part : ℕ
  -- "the offset, in the normal table", of its 50 or 43
  pub at : offset ≡ part_offset k part
  -- "no list of relaxed moves, of any length, reaches that one part alone", and it is the first such part, in table order
  pub first : FirstUnreachable k s part
  -- giving up anything else does not help: with any goal that still holds it, no list of relaxed moves solves the task
  pub keeping : (g : Block) → In (goal_part k part) g → (list : List ℕ) → Solves relaxed (with_goal k g) s list → ⊥

-- An offset that blocks, of the bytes t of a normal table and bs of a state: both are accepted, and it is the true reason.
pub record TrueReason (t bs : List ℕ) (offset : ℕ) : Type 0 where
  pub table : Table
  pub read : reading paper (only normal) t ≡ accepted table
  pub state : state_refusal paper table.task.props (table.task.vars / 2) bs ≡ none
  pub blocker : Blocker table.task (layer_zero table bs) offset

-- what the call promises of its answer: an offset is the true reason
abbrev pub Reasoned : List ℕ → List ℕ → Result (Option ℕ) Refusal → Type 0
Reasoned t bs (Ok (Some offset)) = TrueReason t bs offset
Reasoned t bs (Ok None) = Unit {0}
Reasoned t bs (Err r) = Unit {0}

-- ---- the reason, in the written table
-- An offset that blocks, of the normal form of a written table w and of the bytes bs of a state.
pub record WrittenReason (w : Table) (bs : List ℕ) (offset : ℕ) : Type 0 where
  pub state : state_refusal paper w.task.props w.task.vars bs ≡ none
  -- the part of the normal form: no list of relaxed moves, of any length, reaches it alone
  pub blocker : Blocker (relaxed_task w) (layer_zero w bs) offset
  -- the item of the written goal that this part came from (the only one: `Written.came_one`)
  pub from : CameFrom w.task.goal blocker.part
  -- with that item alone for its goal, or any goal that still holds it, no list of moves, of any length, solves the table as written:
  -- giving up anything else does not help
  pub unsolvable :
      (g : Block) → In from.item g → (list : List ℕ) → Solves real (with_goal w.task g) (start_state w bs) list → ⊥
  -- and none solves its relaxed task
  pub keeping :
      (g : Block) → In from.item g
      → (list : List ℕ)
      → Solves relaxed (normal_task (with_goal w.task g)) (layer_zero w bs) list
      → ⊥
