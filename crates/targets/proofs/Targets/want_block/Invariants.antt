-- `Targets::want_block` meets its contract. The invariant: in every reading, the items before `at` are passed. The measure is what
-- is left of the part. Assumes nothing.
use Prim.Native.Nat.{◌-◌, ◌≤◌}
use lib.ListN.{length}
use Rattle.targets.specs.Blocks.{BlockWantable, BlockDone}
use Rattle.targets.proofs.Targets.want_block.Given as goal

abbrev pub invariant-loop-prop : goal.invariant-loop-prop
invariant-loop-prop l = (l.at ≤ length l.part) × ((x : BlockWantable l.part l.row l.lows l.initial.self) → BlockDone x l.at l.self)

abbrev pub decreases-loop-prop : goal.decreases-loop-prop
decreases-loop-prop l = length l.part - l.at
