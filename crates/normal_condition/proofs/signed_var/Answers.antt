-- `signed_var` meets its contract, by the sign of the weight. Assumes nothing.
use native.Mathlib.Omega.{arith}
use mathlib.Core.Path.{sym, ap}
use Rattle.integer.specs.Linear.{back}
use Rattle.model.specs.Task.{Term}
use Rattle.normal_condition.specs.Signs.{signed_above, signed_below}
use Rattle.normal_condition.proofs.signed_var.Goals as goal

pub returns-then-weight-gt0 : goal.returns-then-weight-gt0
returns-then-weight-gt0 c =
    let a = c.args in
    let above = rw (back a.weight c.ranges.weight.sfits) at c.if-weight-gt0.true in
    (sym (ap (λ (t : Term). t.var) (signed_above a.var a.weight above)), omega (arith, c.requires))

pub returns-else-weight-gt0 : goal.returns-else-weight-gt0
returns-else-weight-gt0 c =
    let a = c.args in
    let below = rw (back a.weight c.ranges.weight.sfits) at c.if-weight-gt0.false in
    (sym (ap (λ (t : Term). t.var) (signed_below a.var a.weight below)), omega (arith, c.requires))
