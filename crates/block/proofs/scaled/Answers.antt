-- `scaled` meets its contract. Assumes nothing.
use native.Mathlib.Omega.{arith}
use mathlib.Core.Path.{refl}
use lib.IntN.{◌*ℤ◌}
use Rattle.integer.specs.Linear.{small_fits, op2_fits, op2_back}
use Rattle.integer.proofs.Operators.{weighted}
use Rattle.block.specs.Items.{read_scaled}
use Rattle.block.proofs.scaled.Goals as goal

pub weight-requires : goal.weight-requires
weight-requires c = c.requires.0

pub overflow_mul-result : goal.overflow_mul-result
overflow_mul-result c =
    let w = c.weight.result in
    op2_fits ◌*ℤ◌ w c.args.x (small_fits w (omega (arith, c.weight.ensures.small))) c.ranges.x (omega (arith, weighted w c.args.x 1000 c.weight.ensures.small))

pub returns : goal.returns
returns c =
    let w = c.weight.result in
    let size = weighted w c.args.x 1000 c.weight.ensures.small in
    rw (op2_back ◌*ℤ◌ w c.args.x (small_fits w (omega (arith, c.weight.ensures.small))) c.ranges.x (omega (arith, size)))
    (read_scaled c.weight.ensures c.requires.1 refl size)
