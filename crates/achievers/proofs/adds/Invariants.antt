-- The invariant of `adds`: in every reading, the items that are left decide. The measure is what is left of the part. Assumes nothing.
use Prim.Native.Nat.{◌-◌}
use lib.ListN.{length}
use Rattle.model.specs.Task.{adds}
use Rattle.block.specs.Blocks.{Walk}
use Rattle.achievers.specs.Search.{Alone}
use Rattle.achievers.proofs.adds.Given as goal

abbrev pub invariant-loop-at : goal.invariant-loop-at
invariant-loop-at l = Walk l.part Alone (λ (s : Unit {0}). adds l.p) l.at

abbrev pub decreases-loop-at : goal.decreases-loop-at
decreases-loop-at l = length l.part - l.at
