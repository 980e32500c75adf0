-- `is_free` meets its contract: no number of 64 bits is below "no target". Assumes nothing.
use native.Mathlib.Omega.{arith}
use mathlib.Core.Path.{◌≡◌, ◌∙◌}
use mathlib.Core.Bool.{true}
use lib.IntN.{negsuc}
use lib.Signed.{le_z}
use Rattle.integer.specs.Linear.{le_le_z}
use Rattle.integer.proofs.Operators.{equal_test, above_start}
use Rattle.targets.specs.Encoding.{is_free}
use Rattle.targets.proofs.is_free.Goals as goal

pub returns : goal.returns
unfolding is_free
returns c =
    let x = c.args.target in
    let above : le_z (negsuc 9223372036854775807) x ≡ true = le_le_z (above_start x c.ranges.target.sfits) in
    equal_test x (negsuc 9223372036854775807) c.ranges.target.sfits (omega arith) ∙ rw above
