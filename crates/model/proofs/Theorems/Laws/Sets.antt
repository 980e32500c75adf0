-- A set of blocks as a number (`Plan.set_of`): bit b is set exactly if there is a block at place b and it passes the test.
-- Assumes nothing.
use Prim.Native.Nat.{ℕ, zero, suc, ◌+◌, ◌*◌, ◌^◌, ◌/◌, ◌%◌, ◌≤◌, ◌<◌}
use Rattle.std.proofs.Math.Nat.{zero-div, div-div-eq-div-mul, pow-succ'}
use native.Mathlib.Omega.{arith}
use Rattle.std.specs.Prelude.{◌≡◌, refl, Bool, true, false, cond, eqb, length, get_or}
use Rattle.std.proofs.Common.{ap, ◌∙◌}
use mathlib.Core.List.{List, [], ◌∷◌}
use Rattle.model.specs.Task.{Block}
use Rattle.model.specs.Plan.{set_of, bit}

pub bit_zero : (b : ℕ) → bit 0 b ≡ false
unfolding bit
bit_zero b = rw (zero-div (2 ^ b))

bit_low : (x q : ℕ) → x ≤ 1 → bit (x + 2 * q) 0 ≡ eqb x 1
unfolding bit
bit_low x q h = let e : (x + 2 * q) / 1 % 2 ≡ x = omega arith in ap (λ (m : ℕ). eqb m 1) e

bit_high : (x q b : ℕ) → x ≤ 1 → bit (x + 2 * q) (suc b) ≡ bit q b
unfolding bit
bit_high x q b h =
    let e : (x + 2 * q) / 2 ≡ q = omega arith in
    rw (pow-succ' 2 b, ← (div-div-eq-div-mul (x + 2 * q) 2 (2 ^ b)), e)

one : (x : Bool) → cond x 1 0 ≤ 1
one true = omega arith
one false = omega arith

is_one : (x : Bool) → eqb (cond x 1 0) 1 ≡ x
is_one true = refl
is_one false = refl

module _ (f : Block → Bool) where
  -- no bit is set beyond the list
  pub set_small : (bs : List Block) → set_of f bs < 2 ^ length bs
  unfolding set_of
  set_small [] = omega arith
  set_small (b ∷ bs) = omega (arith, set_small bs, one (f b), pow-succ' 2 (length bs))

  -- bit i says whether the block at place i passes,
  pub set_bit : (bs : List Block) (i : ℕ) → i < length bs → bit (set_of f bs) i ≡ f (get_or bs i [])
  unfolding set_of
  set_bit [] i h = absurd (omega arith)
  set_bit (b ∷ bs) zero h = bit_low (cond (f b) 1 0) (set_of f bs) (one (f b)) ∙ is_one (f b)
  set_bit (b ∷ bs) (suc i) h = bit_high (cond (f b) 1 0) (set_of f bs) i (one (f b)) ∙ set_bit bs i (omega arith)

  -- and is not set where no block stands
  pub set_beyond : (bs : List Block) (i : ℕ) → length bs ≤ i → bit (set_of f bs) i ≡ false
  unfolding set_of
  set_beyond [] i h = bit_zero i
  set_beyond (b ∷ bs) zero h = absurd (omega arith)
  set_beyond (b ∷ bs) (suc i) h = bit_high (cond (f b) 1 0) (set_of f bs) i (one (f b)) ∙ set_beyond bs i (omega arith)
