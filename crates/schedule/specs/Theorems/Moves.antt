-- What keeps a move from being made, exactly: one of "missing, not allowed or out of range", and it is what step refuses it for.
-- Assumes nothing.
use Rattle.std.specs.Prelude.{ℕ, ◌<◌, List, nat_abs}
use Rattle.std.proofs.Math.Option.{Option, none, some}
use Rattle.model.specs.Limits.{Limits}
use Rattle.model.specs.Task.{Task}
use Rattle.model.specs.Move.{State}
use Rattle.model.specs.Calls.{Output, writes, turns}
use Rattle.schedule.specs.declared.Fault.{Fault}
use Rattle.schedule.specs.Check.{fault_number}

-- a variable of the state has a value beyond the range
pub record Beyond (L : Limits) (k : Task) (s : State) : Type 0 where
  pub var : ℕ
  pub known : var < k.vars
  pub beyond : L.constant < nat_abs (s.val var)

-- step's answer, from the fault and the bytes of the state after the move
unfoldable pub step_output : Option Fault → List ℕ → Output
step_output none bs = writes bs
step_output (some f) bs = turns (record { number = fault_number f; place = 0 })
