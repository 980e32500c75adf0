-- `Targets::none` meets its contract. Assumes nothing.
use mathlib.Core.Path.{refl}
use Rattle.targets.specs.Encoding.{fresh}
use Rattle.targets.proofs.Targets.none.Goals as goal

pub returns : goal.returns
unfolding fresh
returns c = refl
