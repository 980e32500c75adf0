-- How many of the numbers below a bound pass a test, and how that number grows with the test.
-- Assumes nothing.
use Prim.Native.Nat.{ℕ, zero, suc, ◌≤◌, ◌<◌}
use Rattle.std.specs.Prelude.{◌≡◌, refl, Bool, true, cond, T}
use Rattle.std.proofs.Math.Bool.{false}
use native.Mathlib.Omega.{arith}
use Rattle.model.proofs.Theorems.Laws.Booleans.{T-stable, not-false}
use Rattle.model.proofs.Theorems.Laws.Searching.{below_suc}
use Rattle.model.specs.Theorems.Laws.Counting.{count}

step_mono : (b c : Bool) {m n : ℕ} → (T b → T c) → m ≤ n → cond b (suc m) m ≤ cond c (suc n) n
step_mono true true h l = omega arith
step_mono true false h l = absurd (h tt)
step_mono false true h l = omega arith
step_mono false false h l = l

step_strict : (b c : Bool) {m n : ℕ} → (T b → T c) → m < n → cond b (suc m) m < cond c (suc n) n
step_strict true true h l = omega arith
step_strict true false h l = absurd (h tt)
step_strict false true h l = omega arith
step_strict false false h l = l

step_flip : (b c : Bool) {m n : ℕ} → (T b → ⊥) → T c → m ≤ n → cond b (suc m) m < cond c (suc n) n
step_flip true c h k l = absurd (h tt)
step_flip false true h k l = omega arith
step_flip false false h k l = absurd k

module _ (f g : ℕ → Bool) where
  -- a weaker test is passed as often, or more often
  pub count_mono : (n : ℕ) → ((i : ℕ) → i < n → T (f i) → T (g i)) → count f n ≤ count g n
  unfolding count
  count_mono zero h = omega arith
  count_mono (suc n) h = step_mono (f n) (g n) (h n (omega arith)) (count_mono n (λ i l. h i (omega arith)))

  -- and more often if one number passes it alone
  pub count_grows :
      (n : ℕ)
      → ((i : ℕ) → i < n → T (f i) → T (g i))
      → (i : ℕ)
      → i < n
      → (T (f i) → ⊥)
      → T (g i)
      → count f n < count g n
  unfolding count
  count_grows zero h i l no-f yes-g = absurd (omega arith)
  count_grows (suc n) h i l no-f yes-g =
      below_suc i n l
      (λ k. step_strict (f n) (g n) (h n (omega arith)) (count_grows n (λ j m. h j (omega arith)) i k no-f yes-g))
      (λ e. step_flip (f n) (g n) (rw e at no-f) (rw e at yes-g) (count_mono n (λ j k. h j (omega arith))))

  -- so a weaker test passed no more often is the same test
  pub count_same :
      (n : ℕ)
      → ((i : ℕ) → i < n → T (f i) → T (g i))
      → count g n ≤ count f n
      → (i : ℕ)
      → i < n
      → T (g i)
      → T (f i)
  count_same n h le i l yes-g = T-stable (f i) (λ no-f. omega (arith, count_grows n h i l no-f yes-g))

-- every number below n passes this test
pub count_all : (n : ℕ) → count (λ i. true) n ≡ n
unfolding count
count_all zero = refl
count_all (suc n) = let e : count (λ i. true) n ≡ n = count_all n in omega arith

module _ (f : ℕ → Bool) where
  pub count_most : (n : ℕ) → count f n ≤ n
  count_most n = omega (arith, count_all n, count_mono f (λ i. true) n (λ i l t. tt))

  -- fewer than n pass if one does not
  pub count_fewer : (n i : ℕ) → i < n → (T (f i) → ⊥) → count f n < n
  count_fewer n i l h = omega (arith, count_all n, count_grows f (λ j. true) n (λ j k t. tt) i l h tt)

  -- a last number that does not pass does not count
  pub count_last : (n : ℕ) → (T (f n) → ⊥) → count f (suc n) ≡ count f n
  unfolding count
  count_last n h = rw (not-false (f n) h)

  -- a first number that passes counts beside its successors
  pub count_first : (n : ℕ) → T (f 0) → count (λ i. f (suc i)) n < count f (suc n)
  unfolding count
  count_first zero t = step_flip false (f 0) (λ e. e) t (omega arith)
  count_first (suc n) t = step_strict (f (suc n)) (f (suc n)) (λ e. e) (count_first n t)
