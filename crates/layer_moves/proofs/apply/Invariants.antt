-- `apply` meets its contract. The invariant: in every reading, the items passed are taken in. The measure is what is left of the
-- part. Assumes nothing.
use Prim.Native.Nat.{◌-◌}
use lib.ListN.{length}
use Rattle.layer_moves.specs.Walking.{AppliedUpTo}
use Rattle.layer_moves.proofs.apply.Given as goal

abbrev pub invariant-loop-prop : goal.invariant-loop-prop
invariant-loop-prop l = AppliedUpTo l.part l.row l.initial.next.has l.initial.next.row l.at l.next.has l.next.row

abbrev pub decreases-loop-prop : goal.decreases-loop-prop
decreases-loop-prop l = length l.part - l.at
