-- `refusal_code` meets its contract. Assumes nothing.
use mathlib.Core.Path.{refl}
use Rattle.model.specs.Exports.{refusal_code}
use Rattle.codes.proofs.refusal_code.Goals as goal

pub returns : goal.returns
unfolding refusal_code
returns c = refl
