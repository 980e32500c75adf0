-- The quotient of an integer by a positive number, rounded up to a whole number: `ceiling a d` is the least q with a ≤ d · q.
-- Its laws: enough, least, the only one, and how it grows with a.
use Rattle.std.specs.Prelude.{◌≡◌, refl, ℕ, suc, ◌+◌, ◌*◌, ◌-◌, ◌/◌, ◌<◌, ◌≤◌, ℤ, pos, negsuc, neg_ℤ, nat_abs, ◌+ℤ◌, ◌*ℤ◌, ◌≤ℤ◌, ◌<ℤ◌}
use Rattle.std.proofs.Math.Nat.{div-add-mod}
use Rattle.std.proofs.Common.{mod-lt, div-le_self, le-mul_of_pos_right, arith}
use Rattle.std.specs.Int.Signed.{quot_z}
use Rattle.integer.specs.Linear.{zlin, le_in, lt_in, sum, neg_up, neg_dn, ≤-refl, ≤_trans, <-suc, pos-≤, *-neg, *-dist-left, *-cancel-<, *-zero, abs_neg}
use Rattle.integer.specs.Ceiling.{ceiling}

-- seven halves round up to 4, minus seven halves to -3
seven_halves : ceiling (pos 7) 2 ≡ pos 4
unfolding ceiling
seven_halves = refl

minus_seven_halves : ceiling (neg_ℤ (pos 7)) 2 ≡ neg_ℤ (pos 3)
unfolding ceiling
minus_seven_halves = refl

pub ceiling_enough : (a : ℤ) (d : ℕ) → 0 < d → a ≤ℤ (pos d *ℤ ceiling a d)
unfolding ceiling
ceiling_enough (pos a) d p = omega (zlin, div-add-mod (a + (d - 1)) d, mod-lt (a + (d - 1)) p)
ceiling_enough (negsuc a) d p =
    let m = pos (d * (suc a / d)) in
    rw (*-neg (pos d) (pos (suc a / d))) (omega (zlin, neg_up m, neg_dn m, div-add-mod (suc a) d))

pub ceiling_least : (a : ℤ) (d : ℕ) → 0 < d → (pos d *ℤ ceiling a d) <ℤ (a +ℤ pos d)
unfolding ceiling
ceiling_least (pos a) d p = omega (zlin, div-add-mod (a + (d - 1)) d)
ceiling_least (negsuc a) d p =
    let m = pos (d * (suc a / d)) in
    rw (*-neg (pos d) (pos (suc a / d)))
    (omega (zlin, sum (negsuc a) (pos d), neg_up m, neg_dn m, div-add-mod (suc a) d, mod-lt (suc a) p))

-- a whole number whose multiple reaches a is at least the ceiling
pub ceiling_below : (a : ℤ) (d : ℕ) (q : ℤ) → 0 < d → a ≤ℤ (pos d *ℤ q) → ceiling a d ≤ℤ q
ceiling_below a d q p h =
    let k : (pos d *ℤ ceiling a d) <ℤ (pos d *ℤ (q +ℤ pos 1)) =
    omega (zlin, ceiling_least a d p, sum a (pos d), *-dist-left (pos d) q (pos 1), sum (pos d *ℤ q) (pos (d * 1))) in
    omega (zlin, *-cancel-< d (ceiling a d) (q +ℤ pos 1) k, sum q (pos 1))

pub ceiling_unique : (a : ℤ) (d : ℕ) (q : ℤ) → 0 < d → a ≤ℤ (pos d *ℤ q) → (pos d *ℤ q) <ℤ (a +ℤ pos d) → q ≡ ceiling a d
ceiling_unique a d q p h k =
    let c = ceiling a d in
    let l : (pos d *ℤ q) <ℤ (pos d *ℤ (c +ℤ pos 1)) =
    omega (zlin, ceiling_enough a d p, sum a (pos d), *-dist-left (pos d) c (pos 1), sum (pos d *ℤ c) (pos (d * 1))) in
    omega (zlin, *-cancel-< d q (c +ℤ pos 1) l, sum c (pos 1), ceiling_below a d q p h)

pub ceiling_mono : {a b : ℤ} (d : ℕ) → 0 < d → a ≤ℤ b → ceiling a d ≤ℤ ceiling b d
ceiling_mono {a} {b} d p h = ceiling_below a d (ceiling b d) p (≤_trans h (ceiling_enough b d p))

pub ceiling_le : (a : ℤ) (d b : ℕ) → 0 < d → a ≤ℤ pos b → ceiling a d ≤ℤ pos b
ceiling_le a d b p h = ceiling_below a d (pos b) p (omega (zlin, le-mul_of_pos_right b p))

pub ceiling_pos : (a : ℤ) (d : ℕ) → 0 < d → pos 0 <ℤ a → pos 1 ≤ℤ ceiling a d
ceiling_pos a d p h = <-suc (*-cancel-< d (pos 0) (ceiling a d) (omega (zlin, ceiling_enough a d p, *-zero (pos d))))

pub ceiling_size : (a : ℤ) (d : ℕ) → 0 < d → nat_abs (ceiling a d) ≤ nat_abs a
unfolding ceiling
ceiling_size (pos a) d p = pos-≤ (ceiling_le (pos a) d a p (≤-refl (pos a)))
ceiling_size (negsuc a) d p = rw (abs_neg (pos (suc a / d))) (div-le_self (suc a) d)

-- by the division that rounds toward zero
pub ceiling_neg : (a : ℤ) (d : ℕ) → a <ℤ pos 0 → quot_z a (pos d) ≡ ceiling a d
unfolding ceiling
ceiling_neg (pos a) d h = absurd (omega (arith, lt_in (pos a) (pos 0) h))
ceiling_neg (negsuc a) d h = refl

pub ceiling_nonneg : (a : ℤ) (d : ℕ) → pos 0 ≤ℤ a → quot_z (a +ℤ pos (d - 1)) (pos d) ≡ ceiling a d
unfolding ceiling
ceiling_nonneg (pos a) d h = refl
ceiling_nonneg (negsuc a) d h = absurd (omega (arith, le_in (pos 0) (negsuc a) h))
