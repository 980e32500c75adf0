-- `divisor` meets its contract: a normal table's weights are above 0. Assumes nothing.
use native.Mathlib.Omega.{arith}
use mathlib.Core.Path.{ap}
use lib.IntN.{nat_abs}
use Rattle.integer.specs.Linear.{back}
use Rattle.targets.specs.Wanting.{normal_term, non_negative, divisor_positive, divisor_of}
use Rattle.targets.proofs.divisor.Goals as goal

pub weight-w-requires : goal.weight-w-requires
weight-w-requires c = normal_term c.requires

pub overflow_cast-result : goal.overflow_cast-result
overflow_cast-result c =
    rw (back c.weight-w.result c.weight-w.type_inv)
    (non_negative c.weight-w.result (divisor_positive c.requires c.weight-w.ensures), record { fits = omega (arith, c.weight-w.ensures.small) })

pub returns : goal.returns
returns c = divisor_of c.requires c.weight-w.ensures (ap nat_abs (back c.weight-w.result c.weight-w.type_inv))
