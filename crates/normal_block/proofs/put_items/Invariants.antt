-- `put_items` meets its contract. The invariant: in every reading, the items before `at` are written. The measure is what is left
-- of the part. Assumes nothing.
use Prim.Native.Nat.{◌-◌}
use lib.ListN.{length}
use Rattle.model.specs.Task.{Block}
use Rattle.block.specs.Remaining.{Remaining}
use Rattle.normal_block.specs.Blocks.{ItemsWriting}
use Rattle.normal_block.proofs.put_items.Given as goal

abbrev pub invariant-loop-at : goal.invariant-loop-at
invariant-loop-at l = (b : Block) → Remaining l.part 1 b → ItemsWriting l.part b l.at l.initial.out l.start l.out l.to

abbrev pub decreases-loop-at : goal.decreases-loop-at
decreases-loop-at l = length l.part - l.at
