-- `is_active` meets its contract. The invariant: the items that are left decide. The measure is what is left of the part.
-- Assumes nothing.
use Prim.Native.Nat.{◌-◌}
use mathlib.Core.Bool.{Bool}
use lib.ListN.{length}
use Rattle.model.specs.Lists.{any}
use Rattle.model.specs.Task.{Block, changes}
use Rattle.block.specs.Items.{Ranges}
use Rattle.block.specs.Blocks.{Walk}
use Rattle.rewrite.proofs.is_active.Given as goal

-- the question is about the block alone
abbrev pub Over : Ranges → Unit {0} → Type 0
Over k s = Unit {0}

abbrev pub changing : Unit {0} → Block → Bool
changing s b = any changes b

abbrev pub invariant-loop-at : goal.invariant-loop-at
invariant-loop-at l = Walk l.part Over changing l.at

abbrev pub decreases-loop-at : goal.decreases-loop-at
decreases-loop-at l = length l.part - l.at
