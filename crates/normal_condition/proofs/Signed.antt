-- A number that the code negates, counts one up or down, or compares with 0. Assumes nothing.
use Prim.Native.Nat.{suc, ◌<◌, ◌^◌}
use native.Mathlib.Omega.{arith}
use mathlib.Core.Path.{◌≡◌, ◌∙◌}
use mathlib.Core.Bool.{true, false}
use borrow.Author.Tests.{ne_eqb}
use lib.Dec.{eqb}
use lib.IntN.{ℤ, pos, negsuc, neg_ℤ, nat_abs, ◌+ℤ◌, ◌-ℤ◌}
use lib.Signed.{mag}
use Rattle.std.proofs.Common.{eq-eqb}
use mir.Syntax.{w64}
use mir.Val.{to_z, of_z}
use Rattle.integer.specs.Linear.{zero_sub, abs_sum, abs_sub, small_fits, op2_back}

pub neg_back : (z : ℤ) → nat_abs z < 2 ^ 63 → to_z w64 (of_z w64 (pos 0 -ℤ to_z w64 (of_z w64 z))) ≡ neg_ℤ z
neg_back z h =
    op2_back ◌-ℤ◌ (pos 0) z (small_fits (pos 0) (omega arith)) (small_fits z h) (omega (arith, abs_sub (pos 0) z)) ∙ zero_sub z

pub up_back : (z : ℤ) → nat_abs z < 2 ^ 62 → to_z w64 (of_z w64 (to_z w64 (of_z w64 z) +ℤ pos 1)) ≡ z +ℤ pos 1
up_back z h = op2_back ◌+ℤ◌ z (pos 1) (small_fits z (omega arith)) (small_fits (pos 1) (omega arith)) (omega (arith, abs_sum z (pos 1)))

pub down_back : (z : ℤ) → nat_abs z < 2 ^ 62 → to_z w64 (of_z w64 (pos 1 -ℤ to_z w64 (of_z w64 z))) ≡ pos 1 -ℤ z
down_back z h = op2_back ◌-ℤ◌ (pos 1) z (small_fits (pos 1) (omega arith)) (small_fits z (omega arith)) (omega (arith, abs_sub (pos 1) z))

-- it is 0, or not, where its size is
module _ (z : ℤ) (h : mag z < 2 ^ 63) where
  pub zero_size : of_z w64 z ≡ 0 → eqb (nat_abs z) 0 ≡ true
  zero_size = go z h
    where
      go : (x : ℤ) → mag x < 2 ^ 63 → of_z w64 x ≡ 0 → eqb (nat_abs x) 0 ≡ true
      go (pos n) m e = eq-eqb n 0 e
      go (negsuc n) m e = absurd (omega arith)

  pub other_size : (of_z w64 z ≡ 0 → ⊥) → eqb (nat_abs z) 0 ≡ false
  other_size = go z
    where
      go : (x : ℤ) → (of_z w64 x ≡ 0 → ⊥) → eqb (nat_abs x) 0 ≡ false
      go (pos n) e = ne_eqb n 0 e
      go (negsuc n) e = ne_eqb (suc n) 0 (λ p. omega arith)
