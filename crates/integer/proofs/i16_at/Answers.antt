-- `i16_at` meets its contract: `signed_at` at two bytes.
-- Assumes nothing.
use mathlib.Core.Path.{refl}
use native.Mathlib.Omega.{arith}
use Rattle.integer.specs.BigEndian.{half}
use Rattle.integer.specs.Linear.{back}
use Rattle.integer.proofs.i16_at.Goals as goal

pub signed_at-requires : goal.signed_at-requires
unfolding half
signed_at-requires c = (omega arith, omega arith, omega arith, refl, omega arith)

pub returns : goal.returns
returns c = rw (back c.signed_at.result c.signed_at.type_inv) c.signed_at.ensures
