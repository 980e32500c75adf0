-- `is_unbounded` meets its contract: no number of 64 bits is above the mark. Assumes nothing.
use native.Mathlib.Omega.{arith}
use mathlib.Core.Path.{◌≡◌, ◌∙◌}
use mathlib.Core.Bool.{true}
use lib.IntN.{pos}
use lib.Signed.{le_z}
use Rattle.std.proofs.Math.Bool.{and-true}
use Rattle.integer.specs.Linear.{le_le_z}
use Rattle.integer.proofs.Operators.{equal_test, below_end}
use Rattle.block.specs.Sums.{is_mark}
use Rattle.block.proofs.is_unbounded.Goals as goal

pub returns : goal.returns
unfolding is_mark
returns c =
    let x = c.args.x in
    let below : le_z x (pos 9223372036854775807) ≡ true = le_le_z (below_end x c.ranges.x.sfits) in
    equal_test x (pos 9223372036854775807) c.ranges.x.sfits (omega arith) ∙ rw below (and-true _)
