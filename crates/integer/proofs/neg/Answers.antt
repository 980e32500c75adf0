-- `neg` meets its contract: the result fits by its size, and is read back.
-- Assumes nothing.
use Prim.Native.Nat.{◌≤◌}
use native.Mathlib.Omega.{arith}
use lib.IntN.{pos, nat_abs, ◌-ℤ◌}
use Rattle.integer.specs.Linear.{zero_sub, abs_neg, small_fits, op2_fits, op2_back}
use Rattle.integer.proofs.neg.Goals as goal

pub overflow_sub-result : goal.overflow_sub-result
overflow_sub-result c =
    let size : nat_abs (pos 0 -ℤ c.args.a) ≤ nat_abs c.args.a = rw (zero_sub c.args.a) (omega (arith, abs_neg c.args.a)) in
    op2_fits ◌-ℤ◌ (pos 0) _ (small_fits (pos 0) (omega arith)) c.ranges.a (omega (arith, size))

pub returns : goal.returns
returns c =
    let size : nat_abs (pos 0 -ℤ c.args.a) ≤ nat_abs c.args.a = rw (zero_sub c.args.a) (omega (arith, abs_neg c.args.a)) in
    rw (op2_back ◌-ℤ◌ (pos 0) _ (small_fits (pos 0) (omega arith)) c.ranges.a (omega (arith, size))) (zero_sub c.args.a, size)
