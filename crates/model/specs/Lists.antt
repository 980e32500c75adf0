-- Searches over lists and over the numbers below a bound, with tests that compute.
-- Assumes nothing.
use Rattle.std.specs.Prelude.{ℕ, zero, suc, Bool, true, false, ◌&&◌, ◌||◌, List, [], ◌∷◌, ◌⊎◌, ◌≡◌}
use Rattle.std.proofs.Math.Option.{Option, none, some}

-- x stands in the list
abbrev pub In : {A : Type 0} → A → List A → Type 0
In x [] = ⊥
In x (y ∷ ys) = (x ≡ y) ⊎ In x ys

module _ {A : Type 0} where
  unfoldable pub all : (A → Bool) → List A → Bool
  all f [] = true
  all f (x ∷ xs) = f x && all f xs

  unfoldable pub any : (A → Bool) → List A → Bool
  any f [] = false
  any f (x ∷ xs) = f x || any f xs

-- does f hold for every number below n, for some number below n
unfoldable pub all_below : (ℕ → Bool) → ℕ → Bool
all_below f zero = true
all_below f (suc n) = all_below f n && f n

unfoldable pub any_below : (ℕ → Bool) → ℕ → Bool
any_below f zero = false
any_below f (suc n) = any_below f n || f n

-- the first of the n numbers from i on for which f holds
unfoldable pub first_from : (ℕ → Bool) → ℕ → ℕ → Option ℕ
first_from f i zero = none
first_from f i (suc n) = elim (f i) [ true ↦ some i | false ↦ first_from f (suc i) n ]

-- what f gives for i, i + 1, .. i + n − 1
unfoldable pub tabulate : {A : Type 0} → (ℕ → A) → ℕ → ℕ → List A
tabulate f i zero = []
tabulate f i (suc n) = f i ∷ tabulate f (suc i) n

-- f applied for 0, then 1, .. then n − 1
unfoldable pub fold_below : {A : Type 0} → (ℕ → A → A) → ℕ → A → A
fold_below f zero a = a
fold_below f (suc n) a = f n (fold_below f n a)
