-- Linear arithmetic over the integers: every integer is `up z - dn z` for two natural numbers, and `omega zlin` decides
-- orders and equations by them. The laws of an ordered ring, sizes, and the larger of two numbers.
use Rattle.std.specs.Prelude.{◌≡◌, refl, ◌⊎◌, Bool, true, false, not, cond, ℕ, zero, suc, ◌+◌, ◌*◌, ◌-◌, ◌^◌, ◌<◌, ◌≤◌, T, ltb, ℤ, pos, negsuc, neg_ℤ, nat_abs, ◌+ℤ◌, ◌-ℤ◌, ◌*ℤ◌, ◌≤ℤ◌, ◌<ℤ◌}
use Rattle.std.proofs.Common.{sym, ap, ◌∙◌, subst, inl, inr, mul-le-mul_left, arith, leb→le, le→leb, ltb→lt, lt→ltb, nltb→le, SFits, to_z, of_z}
use Rattle.std.proofs.Math.Nat.{lt_of_mul-lt-mul_left}
use Rattle.std.proofs.Math.Dec.{nleb→lt}
use Rattle.std.proofs.Math.IntN.{sub_ℕ}
use Rattle.std.proofs.Math.IntN as IntN
use Rattle.std.specs.Int.Signed.{mag, lt_z, le_z, le_z_yes, lt_z_yes, lt_z_no, clash_ℤ}
use Rattle.std.specs.Int.{w64}
use Rattle.std.proofs.lemmas.Int.{to_z-of_z}

-- ---- z is `up z - dn z`

abbrev pub up : ℤ → ℕ
up (pos n) = n
up (negsuc n) = 0

abbrev pub dn : ℤ → ℕ
dn (pos n) = 0
dn (negsuc n) = suc n

-- ---- orders and equations, into ℕ and back

pub le_in : (a b : ℤ) → a ≤ℤ b → up a + dn b ≤ up b + dn a
le_in (pos m) (pos n) h = omega (arith, leb→le m n h.le)
le_in (pos m) (negsuc n) h = absurd h.le
le_in (negsuc m) (pos n) h = omega arith
le_in (negsuc m) (negsuc n) h = omega (arith, leb→le n m h.le)

pub lt_in : (a b : ℤ) → a <ℤ b → up a + dn b < up b + dn a
lt_in (pos m) (pos n) h = omega (arith, ltb→lt m n h.lt)
lt_in (pos m) (negsuc n) h = absurd h.lt
lt_in (negsuc m) (pos n) h = omega arith
lt_in (negsuc m) (negsuc n) h = omega (arith, ltb→lt n m h.lt)

pub eq_in : (a b : ℤ) → a ≡ b → up a + dn b ≡ up b + dn a
eq_in a b e = rw e refl

pub le_out : (a b : ℤ) → up a + dn b ≤ up b + dn a → a ≤ℤ b
le_out (pos m) (pos n) h = record { le = le→leb m n (omega arith) }
le_out (pos m) (negsuc n) h = absurd (omega arith)
le_out (negsuc m) (pos n) h = record { le = tt }
le_out (negsuc m) (negsuc n) h = record { le = le→leb n m (omega arith) }

pub lt_out : (a b : ℤ) → up a + dn b < up b + dn a → a <ℤ b
lt_out (pos m) (pos n) h = record { lt = lt→ltb m n (omega arith) }
lt_out (pos m) (negsuc n) h = absurd (omega arith)
lt_out (negsuc m) (pos n) h = record { lt = tt }
lt_out (negsuc m) (negsuc n) h = record { lt = lt→ltb n m (omega arith) }

pub eq_out : (a b : ℤ) → up a + dn b ≡ up b + dn a → a ≡ b
eq_out (pos m) (pos n) h = ap pos (omega arith)
eq_out (pos m) (negsuc n) h = absurd (omega arith)
eq_out (negsuc m) (pos n) h = absurd (omega arith)
eq_out (negsuc m) (negsuc n) h = ap negsuc (omega arith)

-- ---- a fact for each compound term

sub_by : (a b : ℕ) (t : Bool) → (T t → a < b) → (T (not t) → b ≤ a) → let z = cond t (negsuc (b - suc a)) (pos (a - b)) in up z + b ≡ dn z + a
sub_by a b true f g = let h : a < b = f tt in omega arith
sub_by a b false f g = let h : b ≤ a = g tt in omega arith

pub sub_split : (a b : ℕ) → up (sub_ℕ a b) + b ≡ dn (sub_ℕ a b) + a
sub_split a b = sub_by a b (ltb a b) (ltb→lt a b) (nltb→le a b)

pub sum : (a b : ℤ) → up (a +ℤ b) + (dn a + dn b) ≡ dn (a +ℤ b) + (up a + up b)
sum (pos m) (pos n) = omega arith
sum (pos m) (negsuc n) = omega (arith, sub_split m (suc n))
sum (negsuc m) (pos n) = omega (arith, sub_split n (suc m))
sum (negsuc m) (negsuc n) = omega arith

pub neg_up : (a : ℤ) → up (neg_ℤ a) ≡ dn a
neg_up (pos zero) = refl
neg_up (pos (suc n)) = refl
neg_up (negsuc n) = refl

pub neg_dn : (a : ℤ) → dn (neg_ℤ a) ≡ up a
neg_dn (pos zero) = refl
neg_dn (pos (suc n)) = refl
neg_dn (negsuc n) = refl

pub diff : (a b : ℤ) → up (a -ℤ b) + (dn a + up b) ≡ dn (a -ℤ b) + (up a + dn b)
diff a b = omega (arith, sum a (neg_ℤ b), neg_up b, neg_dn b)

pub prod : (a b : ℤ) → up (a *ℤ b) + (up a * dn b + dn a * up b) ≡ dn (a *ℤ b) + (up a * up b + dn a * dn b)
prod (pos m) (pos n) = omega arith
prod (pos m) (negsuc n) = omega (arith, neg_up (pos (m * suc n)), neg_dn (pos (m * suc n)))
prod (negsuc m) (pos n) = omega (arith, neg_up (pos (suc m * n)), neg_dn (pos (suc m * n)))
prod (negsuc m) (negsuc n) = omega arith

pub scaled : (w : ℕ) (a : ℤ) → up (pos w *ℤ a) + w * dn a ≡ dn (pos w *ℤ a) + w * up a
scaled w a = omega (arith, prod (pos w) a)

pub nat_abs_split : (a : ℤ) → nat_abs a ≡ (up a - dn a) + (dn a - up a)
nat_abs_split (pos n) = omega arith
nat_abs_split (negsuc n) = omega arith

-- ---- the hypotheses as a contract or a branch leaves them

pub sum_in : (r a b : ℤ) → r ≡ a +ℤ b → up r + (dn a + dn b) ≡ dn r + (up a + up b)
sum_in r a b e = rw e (sum a b)

pub diff_in : (r a b : ℤ) → r ≡ a -ℤ b → up r + (dn a + up b) ≡ dn r + (up a + dn b)
diff_in r a b e = rw e (diff a b)

pub lt_true : (a b : ℤ) → lt_z a b ≡ true → a <ℤ b
lt_true a b e = record { lt = subst T (sym e) tt }

pub lt_false : (a b : ℤ) → lt_z a b ≡ false → b ≤ℤ a
lt_false a b e = lt_z_no (subst (λ (t : Bool). T (not t)) (sym e) tt)

nle : (a b : ℤ) → T (not (le_z a b)) → b <ℤ a
nle (pos m) (pos n) t = record { lt = lt→ltb n m (nleb→lt m n t) }
nle (pos m) (negsuc n) t = record { lt = tt }
nle (negsuc m) (pos n) t = absurd t
nle (negsuc m) (negsuc n) t = record { lt = lt→ltb m n (nleb→lt n m t) }

pub le_true : (a b : ℤ) → le_z a b ≡ true → a ≤ℤ b
le_true a b e = record { le = subst T (sym e) tt }

pub le_false : (a b : ℤ) → le_z a b ≡ false → b <ℤ a
le_false a b e = nle a b (subst (λ (t : Bool). T (not t)) (sym e) tt)

-- the test's value from the order
is_true : (t : Bool) → T t → t ≡ true
is_true true h = refl
is_true false h = absurd h

is_false : (t : Bool) → (T t → ⊥) → t ≡ false
is_false true h = absurd (h tt)
is_false false h = refl

pub lt_lt_z : {a b : ℤ} → a <ℤ b → lt_z a b ≡ true
lt_lt_z {a} {b} h = is_true (lt_z a b) h.lt

pub le_le_z : {a b : ℤ} → a ≤ℤ b → le_z a b ≡ true
le_le_z {a} {b} h = is_true (le_z a b) h.le

pub le_lt_z : {a b : ℤ} → b ≤ℤ a → lt_z a b ≡ false
le_lt_z {a} {b} h = is_false (lt_z a b) (λ t. clash_ℤ (lt_z_yes t) h)

pub lt_le_z : {a b : ℤ} → b <ℤ a → le_z a b ≡ false
lt_le_z {a} {b} h = is_false (le_z a b) (λ t. clash_ℤ h (le_z_yes t))

-- into ℕ
pub lt_true_in : (a b : ℤ) → lt_z a b ≡ true → up a + dn b < up b + dn a
lt_true_in a b e = lt_in a b (lt_true a b e)

pub lt_false_in : (a b : ℤ) → lt_z a b ≡ false → up b + dn a ≤ up a + dn b
lt_false_in a b e = le_in b a (lt_false a b e)

pub le_true_in : (a b : ℤ) → le_z a b ≡ true → up a + dn b ≤ up b + dn a
le_true_in a b e = le_in a b (le_true a b e)

pub le_false_in : (a b : ℤ) → le_z a b ≡ false → up b + dn a < up a + dn b
le_false_in a b e = lt_in b a (le_false a b e)

-- Of a hypothesis `omega` applies the first rule that fits, so a difference is read before a sum, and a sum before an equation.
pub ruleset zlin = (arith, le_in, lt_in, diff_in, sum_in, eq_in, lt_true_in, lt_false_in, le_true_in, le_false_in, le_out, lt_out, eq_out)

-- ---- the order

pub ≤-refl : (a : ℤ) → a ≤ℤ a
≤-refl a = omega zlin

pub ≡-≤ : {a b : ℤ} → a ≡ b → a ≤ℤ b
≡-≤ e = omega zlin

pub ≤_trans : {a b c : ℤ} → a ≤ℤ b → b ≤ℤ c → a ≤ℤ c
≤_trans h k = omega zlin

pub ≤-antisym : {a b : ℤ} → a ≤ℤ b → b ≤ℤ a → a ≡ b
≤-antisym h k = omega zlin

pub <-≤ : {a b : ℤ} → a <ℤ b → a ≤ℤ b
<-≤ h = omega zlin

-- an order of integers is an order with a step of one
pub <-suc : {a b : ℤ} → a <ℤ b → (a +ℤ pos 1) ≤ℤ b
<-suc {a} {b} h = omega (zlin, sum a (pos 1))

total_by : (a b : ℤ) (t : Bool) → le_z a b ≡ t → (a ≤ℤ b) ⊎ (b <ℤ a)
total_by a b true e = inl (le_true a b e)
total_by a b false e = inr (le_false a b e)

pub ≤-total : (a b : ℤ) → (a ≤ℤ b) ⊎ (b <ℤ a)
≤-total a b = total_by a b (le_z a b) refl

pub pos_mono : {m n : ℕ} → m ≤ n → pos m ≤ℤ pos n
pos_mono {m} {n} h = omega zlin

pub pos-≤ : {m n : ℕ} → pos m ≤ℤ pos n → m ≤ n
pos-≤ {m} {n} h = omega (arith, le_in (pos m) (pos n) h)

-- ---- the sum

pub +_comm : (a b : ℤ) → a +ℤ b ≡ b +ℤ a
+_comm = IntN.+ℤ_comm

pub +_assoc : (a b c : ℤ) → (a +ℤ b) +ℤ c ≡ a +ℤ (b +ℤ c)
+_assoc = IntN.+ℤ_assoc

pub +-zero : (a : ℤ) → a +ℤ pos 0 ≡ a
+-zero = IntN.+ℤ_idr

pub zero-+ : (a : ℤ) → pos 0 +ℤ a ≡ a
zero-+ = IntN.+ℤ_idl

pub +-mono : {a b c d : ℤ} → a ≤ℤ b → c ≤ℤ d → (a +ℤ c) ≤ℤ (b +ℤ d)
+-mono {a} {b} {c} {d} h k = omega (zlin, sum a c, sum b d)

-- ---- negation and the difference

pub neg_neg : (a : ℤ) → neg_ℤ (neg_ℤ a) ≡ a
neg_neg = IntN.neg_ℤ-neg_ℤ

pub neg_sum : (a b : ℤ) → neg_ℤ (a +ℤ b) ≡ neg_ℤ a +ℤ neg_ℤ b
neg_sum = IntN.neg_ℤ-+ℤ

pub zero_sub : (a : ℤ) → pos 0 -ℤ a ≡ neg_ℤ a
zero_sub a = IntN.+ℤ_idl (neg_ℤ a)

-- ---- the product

pub *-comm : (a b : ℤ) → a *ℤ b ≡ b *ℤ a
*-comm = IntN.*ℤ_comm

pub *-dist-left : (a b c : ℤ) → a *ℤ (b +ℤ c) ≡ (a *ℤ b) +ℤ (a *ℤ c)
*-dist-left a b c = omega (zlin, prod a (b +ℤ c), sum (a *ℤ b) (a *ℤ c), prod a b, prod a c, ap (λ (x : ℕ). up a * x) (sum b c), ap (λ (x : ℕ). dn a * x) (sum b c))

pub *-zero : (a : ℤ) → a *ℤ pos 0 ≡ pos 0
*-zero = IntN.*ℤ-zero

pub one-* : (a : ℤ) → pos 1 *ℤ a ≡ a
one-* a = omega (zlin, scaled 1 a)

pub *-neg : (a b : ℤ) → a *ℤ neg_ℤ b ≡ neg_ℤ (a *ℤ b)
*-neg a b = omega (zlin, prod a (neg_ℤ b), prod a b, neg_up (a *ℤ b), neg_dn (a *ℤ b), ap (λ (x : ℕ). up a * x) (neg_up b), ap (λ (x : ℕ). up a * x) (neg_dn b), ap (λ (x : ℕ). dn a * x) (neg_up b), ap (λ (x : ℕ). dn a * x) (neg_dn b))

pub neg-* : (a b : ℤ) → neg_ℤ a *ℤ b ≡ neg_ℤ (a *ℤ b)
neg-* a b = *-comm (neg_ℤ a) b ∙ *-neg b a ∙ ap neg_ℤ (*-comm b a)

pub *-mono : (w : ℕ) {a b : ℤ} → a ≤ℤ b → (pos w *ℤ a) ≤ℤ (pos w *ℤ b)
*-mono w {a} {b} h = omega (zlin, scaled w a, scaled w b, mul-le-mul_left w (le_in a b h))

pub *-cancel-< : (w : ℕ) (a b : ℤ) → (pos w *ℤ a) <ℤ (pos w *ℤ b) → a <ℤ b
*-cancel-< w a b h = lt_out a b (lt_of_mul-lt-mul_left w (omega (zlin, scaled w a, scaled w b)))

-- ---- the size

pub abs_sum : (a b : ℤ) → nat_abs (a +ℤ b) ≤ nat_abs a + nat_abs b
abs_sum a b = omega (arith, nat_abs_split a, nat_abs_split b, nat_abs_split (a +ℤ b), sum a b)

pub abs_neg : (a : ℤ) → nat_abs (neg_ℤ a) ≡ nat_abs a
abs_neg a = omega (arith, nat_abs_split a, nat_abs_split (neg_ℤ a), neg_up a, neg_dn a)

-- the number without its sign, by the sign
pub abs_negative : (a : ℤ) → a <ℤ pos 0 → neg_ℤ a ≡ pos (nat_abs a)
abs_negative (pos n) h = absurd (omega (arith, lt_in (pos n) (pos 0) h))
abs_negative (negsuc n) h = refl

pub abs_nonneg : (a : ℤ) → pos 0 ≤ℤ a → a ≡ pos (nat_abs a)
abs_nonneg (pos n) h = refl
abs_nonneg (negsuc n) h = absurd h.le

pub abs_sub : (a b : ℤ) → nat_abs (a -ℤ b) ≤ nat_abs a + nat_abs b
abs_sub a b = omega (arith, abs_sum a (neg_ℤ b), abs_neg b)

pub abs_mul : (a b : ℤ) → nat_abs (a *ℤ b) ≡ nat_abs a * nat_abs b
abs_mul (pos m) (pos n) = refl
abs_mul (pos m) (negsuc n) = abs_neg (pos (m * suc n))
abs_mul (negsuc m) (pos n) = abs_neg (pos (suc m * n))
abs_mul (negsuc m) (negsuc n) = refl

-- a size at most n is a place from -n to n
pub size_above : (z : ℤ) (n : ℕ) → nat_abs z ≤ n → z ≤ℤ pos n
size_above z n h = omega (zlin, nat_abs_split z)

pub size_below : (z : ℤ) (n : ℕ) → nat_abs z ≤ n → neg_ℤ (pos n) ≤ℤ z
size_below z n h = omega (zlin, nat_abs_split z, neg_up (pos n), neg_dn (pos n))

pub size_within : (z : ℤ) (n : ℕ) → neg_ℤ (pos n) ≤ℤ z → z ≤ℤ pos n → nat_abs z ≤ n
size_within z n h k = omega (zlin, nat_abs_split z, neg_up (pos n), neg_dn (pos n))

-- ---- the larger of two

unfoldable pub larger : ℤ → ℤ → ℤ
larger a b = cond (le_z a b) b a

larger_by : (a b : ℤ) (P : ℤ → Type 0) (t : Bool) → le_z a b ≡ t → (a ≤ℤ b → P b) → (b <ℤ a → P a) → P (cond t b a)
larger_by a b P true e f g = f (le_true a b e)
larger_by a b P false e f g = g (le_false a b e)

-- what holds of b where a ≤ b, and of a where b < a, holds of the larger
pub larger_cases : (a b : ℤ) (P : ℤ → Type 0) → (a ≤ℤ b → P b) → (b <ℤ a → P a) → P (larger a b)
unfolding larger
larger_cases a b P f g = larger_by a b P (le_z a b) refl f g

pub larger_left : (a b : ℤ) → a ≤ℤ larger a b
larger_left a b = larger_cases a b (λ (m : ℤ). a ≤ℤ m) (λ h. h) (λ h. ≤-refl a)

pub larger_right : (a b : ℤ) → b ≤ℤ larger a b
larger_right a b = larger_cases a b (λ (m : ℤ). b ≤ℤ m) (λ h. ≤-refl b) (λ h. <-≤ h)

pub larger_least : {a b c : ℤ} → a ≤ℤ c → b ≤ℤ c → larger a b ≤ℤ c
larger_least {a} {b} {c} h k = larger_cases a b (λ (m : ℤ). m ≤ℤ c) (λ l. k) (λ l. h)

pub larger_is_left : {a b : ℤ} → b ≤ℤ a → larger a b ≡ a
larger_is_left {a} {b} h = ≤-antisym (larger_least (≤-refl a) h) (larger_left a b)

pub larger_is_right : {a b : ℤ} → a ≤ℤ b → larger a b ≡ b
larger_is_right {a} {b} h = ≤-antisym (larger_least h (≤-refl b)) (larger_right a b)

pub larger_mono : {a b c d : ℤ} → a ≤ℤ b → c ≤ℤ d → larger a c ≤ℤ larger b d
larger_mono {a} {b} {c} {d} h k = larger_least (≤_trans h (larger_left b d)) (≤_trans k (larger_right b d))

pub larger_size : (a b : ℤ) (n : ℕ) → nat_abs a ≤ n → nat_abs b ≤ n → nat_abs (larger a b) ≤ n
larger_size a b n h k = larger_cases a b (λ (m : ℤ). nat_abs m ≤ n) (λ l. k) (λ l. h)

-- ---- 64-bit numbers

pub small_mag : (z : ℤ) → nat_abs z < 2 ^ 63 → mag z < 2 ^ 63
small_mag (pos n) h = h
small_mag (negsuc n) h = omega arith

pub mag_size : (z : ℤ) → mag z < 2 ^ 63 → nat_abs z ≤ 2 ^ 63
mag_size (pos n) h = omega arith
mag_size (negsuc n) h = omega arith

-- what a signed local holds, read back
pub back : (z : ℤ) → mag z < 2 ^ 63 → to_z w64 (of_z w64 z) ≡ z
back z h = to_z-of_z w64 z (record { sfits = h })

pub small_fits : (z : ℤ) → nat_abs z < 2 ^ 63 → SFits w64 z
small_fits z h = record { sfits = small_mag z h }

pub back_small : (z : ℤ) → nat_abs z < 2 ^ 63 → to_z w64 (of_z w64 z) ≡ z
back_small z h = back z (small_mag z h)

-- an operation on two signed locals fits, and its result is read back
module _ (f : ℤ → ℤ → ℤ) (a b : ℤ) (p : SFits w64 a) (q : SFits w64 b) (h : nat_abs (f a b) < 2 ^ 63) where
  pub op2_fits : SFits w64 (f (to_z w64 (of_z w64 a)) (to_z w64 (of_z w64 b)))
  op2_fits = rw (to_z-of_z w64 a p, to_z-of_z w64 b q) (small_fits (f a b) h)

  pub op2_back : to_z w64 (of_z w64 (f (to_z w64 (of_z w64 a)) (to_z w64 (of_z w64 b)))) ≡ f a b
  op2_back = rw (to_z-of_z w64 a p, to_z-of_z w64 b q) (back_small (f a b) h)
