-- `sum_at` meets its contract. The invariant: in every reading, `n` terms are passed and added up. The measure is what is left of the part.
-- Assumes nothing.
use Prim.Native.Nat.{◌+◌, ◌*◌, ◌-◌}
use lib.ListN.{length}
use Rattle.block.specs.Streams.{Summing}
use Rattle.block.proofs.sum_at.Given as goal

abbrev pub invariant-loop-n : goal.invariant-loop-n
invariant-loop-n l = Summing l.part l.from l.values l.n l.total

abbrev pub decreases-loop-n : goal.decreases-loop-n
decreases-loop-n l = length l.part - (l.from + 4 * l.n)
