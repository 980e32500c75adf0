-- `sub` meets its contract: the result fits by its size, and is read back.
-- Assumes nothing.
use Prim.Native.Nat.{◌<◌, ◌^◌}
use mathlib.Core.Path.{refl}
use native.Mathlib.Omega.{arith}
use lib.IntN.{nat_abs, ◌-ℤ◌}
use Rattle.integer.specs.Linear.{abs_sub, op2_fits, op2_back}
use Rattle.integer.proofs.sub.Goals as goal

pub overflow_sub-result : goal.overflow_sub-result
overflow_sub-result c =
    let fits : nat_abs (c.args.a -ℤ c.args.b) < 2 ^ 63 = omega (arith, abs_sub c.args.a c.args.b) in
    op2_fits ◌-ℤ◌ _ _ c.ranges.a c.ranges.b (fits)

pub returns : goal.returns
returns c =
    let fits : nat_abs (c.args.a -ℤ c.args.b) < 2 ^ 63 = omega (arith, abs_sub c.args.a c.args.b) in
    rw (op2_back ◌-ℤ◌ _ _ c.ranges.a c.ranges.b (fits)) (refl, abs_sub c.args.a c.args.b)
