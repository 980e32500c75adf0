-- `applicable` meets its contract. The invariant: the items that are left decide. The measure is what is left of the part.
-- Assumes nothing.
use Prim.Native.Nat.{◌-◌}
use lib.ListN.{length}
use Rattle.block.specs.Blocks.{Walk}
use Rattle.block.specs.Streams.{Over, Asked}
use Rattle.block.proofs.applicable.Given as goal

abbrev pub invariant-loop-from : goal.invariant-loop-from
invariant-loop-from l = Walk l.part (Over l.has l.values) Asked l.from

abbrev pub decreases-loop-from : goal.decreases-loop-from
decreases-loop-from l = length l.part - l.from
