-- `terms_at` meets its contract. The invariant: in every reading of the part, `n` terms of the first item are passed.
-- The measure is what is left of the part. Assumes nothing.
use Prim.Native.Nat.{◌+◌, ◌*◌, ◌-◌, ◌<◌}
use lib.ListN.{length}
use Rattle.model.specs.Task.{Block}
use Rattle.block.specs.Items.{Ranges, Left}
use Rattle.block.specs.Closing.{Passed}
use Rattle.block.proofs.terms_at.Given as goal

abbrev pub invariant-loop-n : goal.invariant-loop-n
invariant-loop-n l = (l.at + 4 * l.n < length l.part) × ((k : Ranges) (rest : Block) → Left k l.part l.at rest → Passed k l.part l.at l.n rest)

abbrev pub decreases-loop-n : goal.decreases-loop-n
decreases-loop-n l = length l.part - (l.at + 4 * l.n)
