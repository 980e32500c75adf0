-- The answer is right, whatever bytes are lent: a yes is a list that solves the table with all its values in range, and the state after it is
-- written; an index is the first entry that cannot be made, with its fault; refusals are those of table and state, and 13 where a yes does not
-- fit. Nothing but a yes writes. Assumes nothing.
use Prim.Native.Nat.{ℕ, ◌+◌, ◌*◌, ◌≤◌, ◌<◌}
use Rattle.std.specs.Prelude.{◌≡◌, length, Result, Ok, Err}
use mathlib.Core.List.{List}
use Rattle.std.proofs.Math.Option.{none, some}
use Rattle.model.specs.Limits.{Limits}
use Rattle.model.specs.Task.{written}
use Rattle.model.specs.Reading.{Table, accepted, only, reading, refused}
use Rattle.model.specs.Move.{State}
use Rattle.model.specs.StateTable.{state_of, state_refusal, state_bytes}
use Rattle.model.specs.declared.Refusal.{Refusal}
use Rattle.model.specs.Memory.{overwrite}
use Rattle.schedule.specs.declared.Fault.{Fault}
use Rattle.schedule.specs.declared.CheckAnswer.{CheckAnswer}
use Rattle.schedule.specs.Run.{state_after, SolvesInRange}
use Rattle.schedule.specs.Theorems.Lists.{FirstFault, Unmet}
use Rattle.schedule.specs.declared.CheckAnswer.TheVariants as check

-- the written table w is read from the bytes, and the state is accepted
pub record Given (L : Limits) (t bs : List ℕ) (w : Table) : Type 0 where
  pub table : reading L (only written) t ≡ accepted w
  pub state : state_refusal L w.task.props w.task.vars bs ≡ none

-- the state that the bytes stand for
abbrev pub start_of : Table → List ℕ → State
start_of w bs = state_of w.task.props bs

-- ---- what an answer says of the lent table, state and list, and of an output that held `old` and holds `new`
module _ (L : Limits) (t bs ms old new : List ℕ) where
  -- "Yes holds exactly when the list solves the table and all its values stay within ±1,000,000", "with the end state"
  pub record YesRight (n : ℕ) : Type 0 where
    pub table : Table
    pub given : Given L t bs table
    pub solves : SolvesInRange L table.task (start_of table bs) ms
    pub end : new ≡ overwrite (state_bytes table.task.props table.task.vars (state_after table.task (start_of table bs) ms)) old
    pub size : n ≡ table.task.props + 4 * table.task.vars
    pub fits : n ≤ length old

  -- "the first index whose move is missing, not allowed or out of range"
  pub record FailsRight (i : ℕ) (f : Fault) : Type 0 where
    pub table : Table
    pub given : Given L t bs table
    pub first : FirstFault L table.task (start_of table bs) ms i f
    pub kept : new ≡ old

  -- "or "goal not met""
  pub record UnmetRight : Type 0 where
    pub table : Table
    pub given : Given L t bs table
    pub unmet : Unmet L table.task (start_of table bs) ms
    pub kept : new ≡ old

  -- why the call turns back: the table's refusal, the state's, or "too short a buffer for it is 13, last"
  pub data Back : Refusal → Type 0 where
    of_table : {r : Refusal} → reading L (only written) t ≡ refused r → Back r
    of_state : {r : Refusal} {w : Table} → reading L (only written) t ≡ accepted w → state_refusal L w.task.props w.task.vars bs ≡ some r → Back r
    short :
        {w : Table}
        → Given L t bs w
        → SolvesInRange L w.task (start_of w bs) ms
        → length old < w.task.props + 4 * w.task.vars
        → Back (record { number = 13; place = 0 })

  abbrev pub CheckRight : Result CheckAnswer Refusal → Type 0
  CheckRight (Ok (check.Yes n)) = YesRight n
  CheckRight (Ok (check.Fails i f)) = FailsRight i f
  CheckRight (Ok check.GoalNotMet) = UnmetRight
  CheckRight (Err r) = Back r × (new ≡ old)
