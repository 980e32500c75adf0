-- What the operators on signed numbers of 64 bits give: a sum, a difference, a negation and a product that fit, and the test `==`.
use Rattle.std.specs.Prelude.{◌≡◌, refl, ◌⊎◌, false, ℕ, ◌&&◌, ◌*◌, ◌-◌, ◌^◌, ◌<◌, ◌≤◌, suc, ℤ, pos, negsuc, nat_abs, ◌*ℤ◌, ◌≤ℤ◌, ◌<ℤ◌, eqb}
use Rattle.std.proofs.Common.{sym, ap, ◌∙◌, inl, inr, mul-le-mul_right, arith, of_z}
use Rattle.std.proofs.lemmas.Bool.{eq-eqb, ne_eqb}
use Rattle.std.specs.Int.Signed.{mag, le_z}
use Rattle.std.specs.Int.{w64, int_max}
use Rattle.integer.specs.Linear.{zlin, back, abs_mul, ≤-antisym, ≤-total, <-≤, le_le_z, lt_le_z, le_lt_z, lt_lt_z, larger, larger_is_left, larger_is_right, lt_in, le_out}

-- a value times a weight
pub weighted : (w x : ℤ) (n : ℕ) → nat_abs w ≤ n → nat_abs (w *ℤ x) ≤ n * nat_abs x
weighted w x n h = rw (abs_mul w x) (mul-le-mul_right (nat_abs x) h)

-- two numbers with the same bits are the same
same_bits : (a b : ℤ) → mag a < 2 ^ 63 → mag b < 2 ^ 63 → of_z w64 a ≡ of_z w64 b → a ≡ b
same_bits a b p q e = sym (back a p) ∙ rw e (back b q)

unlike : (a b : ℤ) → mag a < 2 ^ 63 → mag b < 2 ^ 63 → (a ≡ b → ⊥) → eqb (of_z w64 a) (of_z w64 b) ≡ false
unlike a b p q h = ne_eqb (of_z w64 a) (of_z w64 b) (λ e. h (same_bits a b p q e))

-- `a == b` says that each is at most the other
by_order : (a b : ℤ) → mag a < 2 ^ 63 → mag b < 2 ^ 63 → (a ≤ℤ b) ⊎ (b <ℤ a) → (b ≤ℤ a) ⊎ (a <ℤ b) → eqb (of_z w64 a) (of_z w64 b) ≡ le_z b a && le_z a b
by_order a b p q (inl h) (inl k) = rw (le_le_z h, le_le_z k) (eq-eqb _ _ (ap (of_z w64) (≤-antisym h k)))
by_order a b p q (inl h) (inr k) = rw (lt_le_z k) (unlike a b p q (λ e. omega (zlin, lt_in a b k, e)))
by_order a b p q (inr h) s = rw (lt_le_z h, le_le_z (<-≤ h)) (unlike a b p q (λ e. omega (zlin, lt_in b a h, e)))

pub equal_test : (a b : ℤ) → mag a < 2 ^ 63 → mag b < 2 ^ 63 → eqb (of_z w64 a) (of_z w64 b) ≡ le_z b a && le_z a b
equal_test a b p q = by_order a b p q (≤-total a b) (≤-total b a)

-- `z == 0` says that the size is 0
pub zero_test : (z : ℤ) → mag z < 2 ^ 63 → eqb (of_z w64 z) 0 ≡ eqb (nat_abs z) 0
zero_test (pos n) h = refl
zero_test (negsuc n) h =
    let small : n < 2 ^ 63 = h in
    ne_eqb (2 ^ 64 - suc n) 0 (λ e. omega arith) ∙ sym (ne_eqb (suc n) 0 (λ e. omega arith))

-- no number of 64 bits is above the last one
pub below_end : (z : ℤ) → mag z < 2 ^ 63 → z ≤ℤ pos 9223372036854775807
below_end (pos n) h = let small : n < 2 ^ 63 = h in le_out (pos n) (pos 9223372036854775807) (omega arith)
below_end (negsuc n) h = le_out (negsuc n) (pos 9223372036854775807) (omega arith)

-- or below the first
pub above_start : (z : ℤ) → mag z < 2 ^ 63 → negsuc 9223372036854775807 ≤ℤ z
above_start (pos n) h = le_out (negsuc 9223372036854775807) (pos n) (omega arith)
above_start (negsuc n) h = let small : n < 2 ^ 63 = h in le_out (negsuc 9223372036854775807) (negsuc n) (omega arith)

-- `a.max(b)`
max_by : (a b : ℤ) → (a ≤ℤ b) ⊎ (b <ℤ a) → int_max a b ≡ larger a b
max_by a b (inl h) = rw (le_lt_z h) (sym (larger_is_right h))
max_by a b (inr h) = rw (lt_lt_z h) (sym (larger_is_left (<-≤ h)))

pub max_larger : (a b : ℤ) → int_max a b ≡ larger a b
max_larger a b = max_by a b (≤-total a b)
