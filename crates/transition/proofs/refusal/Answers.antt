-- `refusal` meets its contract. Assumes nothing.
use mathlib.Core.Path.{refl}
use Rattle.transition.proofs.refusal.Goals as goal

pub returns : goal.returns
returns c = rw c.fault_number.ensures refl
