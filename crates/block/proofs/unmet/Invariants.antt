-- `unmet` meets its contract. The invariant: the items that are left decide. The measure is what is left of the part.
-- Assumes nothing.
use Prim.Native.Nat.{◌-◌}
use mathlib.Core.Bool.{Bool}
use mathlib.Core.List.{List}
use lib.IntN.{ℤ}
use lib.ListN.{length}
use Rattle.model.specs.Layer.{Layer}
use Rattle.model.specs.Theorems.Blocking.Parts.{unmet_size}
use Rattle.block.specs.Items.{Ranges}
use Rattle.block.specs.Blocks.{Walk, LayerState}
use Rattle.block.proofs.unmet.Given as goal

-- what the two memories hold
abbrev pub Over : List Bool → List ℤ → Ranges → Layer → Type 0
Over has layer k l = LayerState k has layer l

abbrev pub invariant-loop-prop : goal.invariant-loop-prop
invariant-loop-prop l = Walk l.part (Over l.has l.layer) unmet_size l.at

abbrev pub decreases-loop-prop : goal.decreases-loop-prop
decreases-loop-prop l = length l.part - l.at
