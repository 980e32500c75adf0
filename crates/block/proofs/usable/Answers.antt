-- `usable` meets its contract. Assumes nothing.
use mathlib.Core.Path.{refl}
use Rattle.block.specs.Unmet.{usable_met}
use Rattle.block.proofs.usable.Goals as goal

pub returns : goal.returns
returns c = usable_met c.unmet.ensures refl
