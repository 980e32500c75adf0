-- `between` meets its contract: two comparisons of signed numbers. Assumes nothing.
use mathlib.Core.Bool.{true, false}
use mathlib.Core.Path.{◌≡◌, refl}
use lib.Signed.{le_z}
use Rattle.integer.specs.Linear.{back}
use Rattle.operand.specs.Ranges.{between}
use Rattle.operand.proofs.between.Goals as goal

pub returns-then-low-z : goal.returns-then-low-z
unfolding between
returns-then-low-z c =
    let low : le_z c.args.low c.args.z ≡ true = rw (back c.args.low c.ranges.low.sfits, back c.args.z c.ranges.z.sfits) at c.if-low-z.true in
    rw (back c.args.z c.ranges.z.sfits, back c.args.high c.ranges.high.sfits, low) refl

pub returns-else-low-z : goal.returns-else-low-z
unfolding between
returns-else-low-z c =
    let low : le_z c.args.low c.args.z ≡ false = rw (back c.args.low c.ranges.low.sfits, back c.args.z c.ranges.z.sfits) at c.if-low-z.false in
    rw (back c.args.low c.ranges.low.sfits, back c.args.z c.ranges.z.sfits, low) refl
