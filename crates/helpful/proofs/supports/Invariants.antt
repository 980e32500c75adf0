-- `supports` meets its contract. The invariant: the items that are left decide. The measure is what is left of the part. Assumes nothing.
use Prim.Native.Nat.{◌-◌}
use mathlib.Core.Bool.{Bool}
use mathlib.Core.List.{List}
use lib.IntN.{ℤ}
use lib.ListN.{length}
use Rattle.model.specs.Layer.{Layer}
use Rattle.model.specs.Plan.{Wants}
use Rattle.block.specs.Items.{Ranges}
use Rattle.block.specs.Blocks.{Walk}
use Rattle.helpful.specs.Support.{Scene, supporting}
use Rattle.helpful.proofs.supports.Given as goal

-- what the memories hold
abbrev pub Over : List Bool → List ℤ → List ℤ → List ℤ → Ranges → Layer × Wants → Type 0
Over wanted targets layers row k s = Scene k wanted targets layers row s

abbrev pub invariant-loop-at : goal.invariant-loop-at
invariant-loop-at l = Walk l.part (Over l.wanted l.targets l.layers l.row) supporting l.at

abbrev pub decreases-loop-at : goal.decreases-loop-at
decreases-loop-at l = length l.part - l.at
