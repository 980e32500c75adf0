-- `ceil_div` meets its contract: the division toward zero rounds up below zero, and above it after adding `d - 1`.
-- Assumes nothing.
use Prim.Native.Nat.{ℕ, ◌+◌, ◌-◌, ◌^◌, ◌<◌, ◌≤◌}
use mathlib.Core.Path.{◌≡◌, refl}
use native.Mathlib.Omega.{arith}
use lib.IntN.{ℤ, pos, nat_abs, ◌+ℤ◌}
use lib.Signed.{quot_z}
use mir.Syntax.{w64}
use mir.Val.{SFits, to_z, of_z}
use Rattle.integer.specs.Ceiling.{ceiling}
use Rattle.integer.proofs.Ceiling.{ceiling_neg, ceiling_nonneg, ceiling_size}
use Rattle.integer.specs.Linear.{lt_true, lt_false, abs_sum, small_fits, back, back_small}
use Rattle.integer.proofs.ceil_div.Goals as goal

-- a quotient that is the ceiling fits, and is what the contract asks
result :
    (a : ℤ) (d : ℕ) (z : ℤ)
    → 0 < d
    → nat_abs a + d < 2 ^ 63
    → z ≡ ceiling a d
    → (to_z w64 (of_z w64 z) ≡ ceiling a d) × (nat_abs (to_z w64 (of_z w64 z)) ≤ nat_abs a)
result a d z p h e =
    let fits : SFits w64 z = rw e (small_fits (ceiling a d) (omega (arith, ceiling_size a d p))) in
    rw (back z fits.sfits, e) (refl, ceiling_size a d p)

pub returns-then-a-lt0 : goal.returns-then-a-lt0
returns-then-a-lt0 c =
    let a = c.args.a in
    let d = c.args.d in
    let value : to_z w64 (of_z w64 c.args.a) ≡ c.args.a = back c.args.a c.ranges.a.sfits in
    let divisor : to_z w64 c.args.d ≡ pos c.args.d = back_small (pos c.args.d) (omega arith) in
    let below : quot_z (to_z w64 (of_z w64 c.args.a)) (to_z w64 c.args.d) ≡ ceiling c.args.a c.args.d =
    rw (value, divisor) (ceiling_neg c.args.a c.args.d (lt_true c.args.a (pos 0) (rw value at c.if-a-lt0.true))) in
    result a d _ c.requires.0 c.requires.1 below

pub returns-else-a-lt0 : goal.returns-else-a-lt0
returns-else-a-lt0 c =
    let a = c.args.a in
    let d = c.args.d in
    let value : to_z w64 (of_z w64 c.args.a) ≡ c.args.a = back c.args.a c.ranges.a.sfits in
    let divisor : to_z w64 c.args.d ≡ pos c.args.d = back_small (pos c.args.d) (omega arith) in
    let added : to_z w64 (c.args.d - 1) ≡ pos (c.args.d - 1) = back_small (pos (c.args.d - 1)) (omega arith) in
    let raised : SFits w64 (c.args.a +ℤ pos (c.args.d - 1)) =
    small_fits (c.args.a +ℤ pos (c.args.d - 1)) (omega (arith, abs_sum c.args.a (pos (c.args.d - 1)))) in
    let above :
    quot_z (to_z w64 (of_z w64 (to_z w64 (of_z w64 c.args.a) +ℤ to_z w64 (c.args.d - 1)))) (to_z w64 c.args.d)
    ≡ ceiling c.args.a c.args.d =
    rw (value, added, back (c.args.a +ℤ pos (c.args.d - 1)) raised.sfits, divisor)
    (ceiling_nonneg c.args.a c.args.d (lt_false c.args.a (pos 0) (rw value at c.if-a-lt0.false))) in
    result a d _ c.requires.0 c.requires.1 above
