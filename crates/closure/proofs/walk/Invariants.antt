-- `walk` meets its contract. The invariant: the windows before `w` are left, the entries before `i` are placed, and their starts are
-- written. The measure is what each turn makes one fewer: the windows and entries that are left. Assumes nothing.
use Prim.Native.Nat.{◌+◌, ◌-◌}
use lib.ListN.{length}
use Rattle.placement.specs.Day.{pieces}
use Rattle.closure.specs.Walking.{Walking}
use Rattle.closure.proofs.walk.Given as goal

abbrev pub invariant-loop-i : goal.invariant-loop-i
invariant-loop-i l = Walking l.windows l.durations l.initial.out l.from l.shut l.w l.i l.out

abbrev pub decreases-loop-i : goal.decreases-loop-i
decreases-loop-i l = (pieces 8 (length l.windows) - l.w) + (pieces 4 (length l.durations) - l.i)
