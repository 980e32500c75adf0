-- Two arrays compared place by place, up to a bound.
-- Assumes nothing.
use Rattle.std.specs.Prelude.{ℕ, ◌+◌, ◌≤◌, ◌<◌, ◌≡◌, refl, Bool, true, false, ◌||◌, List, ℤ, pos, get_or}
use Rattle.std.proofs.Common.{add-one, arith, sym, ◌∙◌}
use Rattle.std.proofs.Math.Path.{ap, ap₂}
use Rattle.std.proofs.Math.Bool.{◌&&◌}
use Rattle.std.specs.Bool.{beq}
use Rattle.std.specs.Int.Signed.{le_z}
use Rattle.model.specs.Limits.{paper, largest_value}
use Rattle.model.specs.Lists.{all_below}
use Rattle.model.proofs.Theorems.Laws.Booleans.{not-false, false_not}
use Rattle.model.proofs.Theorems.Laws.Searching.{all_below_at}
use Rattle.block.specs.Sums.{is_mark}

-- ---- a test at each number below a bound, passed so far

-- the first i of n numbers pass the test
pub record Passing (f : ℕ → Bool) (n i : ℕ) : Type 0 where
  pub within : i ≤ n
  pub so : all_below f i ≡ true

pub passing_start : (f : ℕ → Bool) (n : ℕ) → Passing f n 0
unfolding all_below
passing_start f n = record { within = omega arith; so = refl }

module _ {f : ℕ → Bool} {n i : ℕ} (s : Passing f n i) where
  pub passing_next : i < n → f i ≡ true → Passing f n (i + 1)
  unfolding all_below
  passing_next h e = record { within = omega arith; so = ap (all_below f) (add-one i) ∙ ap₂ ◌&&◌ s.so e }

  pub passing_stop : i < n → f i ≡ false → false ≡ all_below f n
  passing_stop h e = sym (not-false (all_below f n) (λ t. false_not e (all_below_at f n t i h)))

  pub passing_end : n ≤ i → true ≡ all_below f n
  passing_end h = let e : i ≡ n = omega (arith, s.within) in sym (ap (all_below f) (sym e) ∙ s.so)

-- ---- the tests

-- is the truth at p the same
unfoldable pub same_truth : List Bool → List Bool → ℕ → Bool
same_truth has next p = beq (get_or has p false) (get_or next p false)

-- is the new number at v not above the old one
unfoldable pub not_above : List ℤ → List ℤ → ℕ → Bool
not_above row next v = le_z (get_or next v (pos 0)) (get_or row v (pos 0))

-- "a finite value above 1,000,000,000,000": neither the mark for unbounded nor at most the limit
unfoldable pub within_limit : ℤ → Bool
within_limit z = is_mark z || le_z z (pos paper.layer_value)

pub within_mark : (z : ℤ) → is_mark z ≡ true → true ≡ within_limit z
unfolding within_limit
within_mark z e = rw e refl

pub within_number : (z : ℤ) → is_mark z ≡ false → le_z z (pos largest_value) ≡ within_limit z
unfolding within_limit paper
within_number z e = rw e refl

-- of each value of a row
unfoldable pub within_at : List ℤ → ℕ → Bool
within_at row v = within_limit (get_or row v (pos 0))
