-- `negate_if` meets its contract, by its flag. Assumes nothing.
use native.Mathlib.Omega.{arith}
use mathlib.Core.Path.{refl}
use Rattle.integer.specs.Linear.{abs_neg, back}
use Rattle.normal_condition.specs.Signs.{negate_if}
use Rattle.normal_condition.proofs.Signed.{neg_back}
use Rattle.normal_condition.proofs.negate_if.Goals as goal

pub returns-then-negated : goal.returns-then-negated
unfolding negate_if
returns-then-negated c = rw (c.if-negated.true, neg_back c.args.z c.requires) (refl, omega (arith, abs_neg c.args.z))

pub returns-else-negated : goal.returns-else-negated
unfolding negate_if
returns-else-negated c = rw (c.if-negated.false, back c.args.z c.ranges.z.sfits) (refl, omega arith)
