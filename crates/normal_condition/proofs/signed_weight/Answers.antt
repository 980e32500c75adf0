-- `signed_weight` meets its contract, by the sign of the weight. Assumes nothing.
use native.Mathlib.Omega.{arith}
use mathlib.Core.Path.{sym, ap}
use Rattle.integer.specs.Linear.{abs_neg, back}
use Rattle.model.specs.Task.{Term}
use Rattle.normal_condition.specs.Signs.{signed_above, signed_below}
use Rattle.normal_condition.proofs.Signed.{neg_back}
use Rattle.normal_condition.proofs.signed_weight.Goals as goal

pub returns-then-weight-gt0 : goal.returns-then-weight-gt0
returns-then-weight-gt0 c =
    let w = c.args.weight in
    let above = rw (back w c.ranges.weight.sfits) at c.if-weight-gt0.true in
    rw (back w c.ranges.weight.sfits) (λ v. sym (ap (λ (t : Term). t.weight) (signed_above v w above)), c.requires)

pub returns-else-weight-gt0 : goal.returns-else-weight-gt0
returns-else-weight-gt0 c =
    let w = c.args.weight in
    let below = rw (back w c.ranges.weight.sfits) at c.if-weight-gt0.false in
    rw (neg_back w (omega (arith, c.requires)))
    (λ v. sym (ap (λ (t : Term). t.weight) (signed_below v w below)), omega (arith, abs_neg w, c.requires))
