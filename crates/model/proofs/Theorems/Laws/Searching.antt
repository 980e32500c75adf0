-- The searches of `Lists` as laws: what it means that all, that some pass a test; the first that passes; folds and tables.
-- Each search has an elimination law and no equation of an Option. Assumes nothing.
use Prim.Native.Nat.{ℕ, zero, suc, ◌+◌, ◌-◌, ◌≤◌, ◌<◌}
use Rattle.std.proofs.Common.{not-suc-le-zero, suc-add, add-suc, add-zero, ◌∙◌}
use Rattle.std.proofs.Math.Numerals.{add-one}
use native.Mathlib.Omega.{arith}
use Rattle.std.specs.Prelude.{◌≡◌, Bool, true, false, length, get_or}
use Rattle.std.proofs.Math.Path.{refl, sym, ap, subst}
use mathlib.Core.List.{List, [], ◌∷◌}
use Rattle.std.proofs.Math.Option.{Option, none, some}
use Rattle.std.proofs.Math.Dec.{T}
use Rattle.model.specs.Lists.{all, any, all_below, any_below, first_from, tabulate, fold_below}
use Rattle.model.specs.Theorems.Reading.WellFormed.{All}
use Rattle.model.proofs.Theorems.Laws.Booleans.{and_left, and_right, and_both, or_left, or_right, or_cases, T-cases}
use Rattle.model.specs.Theorems.Laws.Searching.{Searched}

-- a number below n + 1 is below n, or it is n
pub below_suc : {X : Type 0} (i n : ℕ) → i < suc n → (i < n → X) → (i ≡ n → X) → X
below_suc i zero h f g = g (omega arith)
below_suc zero (suc n) h f g = f (omega arith)
below_suc (suc i) (suc n) h f g = below_suc i n (omega arith) (λ k. f (omega arith)) (λ e. g (ap suc e))

module _ {ℓ} {A : Type ℓ} (P : A → Type 0) where
  pub All-at : (xs : List A) (i : ℕ) (d : A) → All P xs → i < length xs → P (get_or xs i d)
  All-at [] i d a h = absurd (not-suc-le-zero h)
  All-at (x ∷ xs) zero d a h = a.0
  All-at (x ∷ xs) (suc i) d a h = All-at xs i d a.1 (omega arith)

  pub at_all : (xs : List A) (d : A) → ((i : ℕ) → i < length xs → P (get_or xs i d)) → All P xs
  at_all [] d f = tt
  at_all (x ∷ xs) d f = (f zero (omega arith), at_all xs d (λ i h. f (suc i) (omega arith)))

pub All-map {ℓ} : {A : Type ℓ} {P Q : A → Type 0} (xs : List A) → ((x : A) → P x → Q x) → All P xs → All Q xs
All-map [] f a = tt
All-map (x ∷ xs) f a = (f x a.0, All-map xs f a.1)

module _ {A : Type 0} (f : A → Bool) where
  pub all_all : (xs : List A) → T (all f xs) → All (λ x. T (f x)) xs
  unfolding all
  all_all [] t = tt
  all_all (x ∷ xs) t = (and_left (f x) (all f xs) t, all_all xs (and_right (f x) (all f xs) t))

  pub All-all : (xs : List A) → All (λ x. T (f x)) xs → T (all f xs)
  unfolding all
  All-all [] a = tt
  All-all (x ∷ xs) a = and_both (f x) (all f xs) a.0 (All-all xs a.1)

  -- who passed
  pub any_cases :
      {X : Type 0} (xs : List A) (d : A)
      → T (any f xs)
      → ((i : ℕ) → i < length xs → T (f (get_or xs i d)) → X)
      → X
  unfolding any
  any_cases [] d t g = absurd t
  any_cases (x ∷ xs) d t g =
      or_cases (f x) (any f xs) t (λ h. g zero (omega arith) h) (λ h. any_cases xs d h (λ i k. g (suc i) (omega arith)))

  pub any_at : (xs : List A) (d : A) (i : ℕ) → i < length xs → T (f (get_or xs i d)) → T (any f xs)
  unfolding any
  any_at [] d i h t = absurd (not-suc-le-zero h)
  any_at (x ∷ xs) d zero h t = or_left (f x) (any f xs) t
  any_at (x ∷ xs) d (suc i) h t = or_right (f x) (any f xs) (any_at xs d i (omega arith) t)

module _ (f : ℕ → Bool) where
  pub all_below_at : (n : ℕ) → T (all_below f n) → (i : ℕ) → i < n → T (f i)
  unfolding all_below
  all_below_at zero t i h = absurd (not-suc-le-zero h)
  all_below_at (suc n) t i h =
      below_suc i n h (all_below_at n (and_left (all_below f n) (f n) t) i)
      (λ e. subst (λ (j : ℕ). T (f j)) (sym e) (and_right (all_below f n) (f n) t))

  pub at_all_below : (n : ℕ) → ((i : ℕ) → i < n → T (f i)) → T (all_below f n)
  unfolding all_below
  at_all_below zero g = tt
  at_all_below (suc n) g = and_both (all_below f n) (f n) (at_all_below n (λ i h. g i (omega arith))) (g n (omega arith))

  -- where not all pass, one fails
  pub all_below_fails : {X : Type 0} (n : ℕ) → (T (all_below f n) → ⊥) → ((i : ℕ) → i < n → (T (f i) → ⊥) → X) → X
  unfolding all_below
  all_below_fails zero no_all g = absurd (no_all tt)
  all_below_fails (suc n) no_all g =
      T-cases (f n)
      (λ yes-n. all_below_fails n (λ t. no_all (and_both (all_below f n) (f n) t yes-n)) (λ i h. g i (omega arith)))
      (λ no-n. g n (omega arith) no-n)

  pub any_below_cases : {X : Type 0} (n : ℕ) → T (any_below f n) → ((i : ℕ) → i < n → T (f i) → X) → X
  unfolding any_below
  any_below_cases zero t g = absurd t
  any_below_cases (suc n) t g =
      or_cases (any_below f n) (f n) t (λ h. any_below_cases n h (λ i k. g i (omega arith))) (λ h. g n (omega arith) h)

  pub any_below_at : (n : ℕ) (i : ℕ) → i < n → T (f i) → T (any_below f n)
  unfolding any_below
  any_below_at zero i h t = absurd (not-suc-le-zero h)
  any_below_at (suc n) i h t =
      below_suc i n h (λ k. or_left (any_below f n) (f n) (any_below_at n i k t))
      (λ e. or_right (any_below f n) (f n) (subst (λ (j : ℕ). T (f j)) e t))

  -- the first that passes is found, or none of the n passes
  pub first_from_cases :
      (P : Option ℕ → Type 0) (i n : ℕ)
      → ((j : ℕ) → i ≤ j → j < i + n → T (f j) → ((u : ℕ) → i ≤ u → u < j → T (f u) → ⊥) → P (some j))
      → (((u : ℕ) → i ≤ u → u < i + n → T (f u) → ⊥) → P none)
      → P (first_from f i n)
  unfolding first_from
  first_from_cases P i zero found nothing = nothing (λ u h k t. omega arith)
  first_from_cases P i (suc n) found nothing =
      go (f i) (λ t. t) (λ no-i. first_from_cases P (suc i) n (found_later no-i) (none_later no-i))
    where
      past : (T (f i) → ⊥) → (u : ℕ) → i ≤ u → (i < u → T (f u) → ⊥) → T (f u) → ⊥
      past no-i u h after t =
          below_suc i u (omega arith) (λ k. after k t) (λ e. no-i (subst (λ (j : ℕ). T (f j)) (sym e) t))

      found_later :
          (T (f i) → ⊥)
          → (j : ℕ)
          → suc i ≤ j
          → j < suc i + n
          → T (f j)
          → ((u : ℕ) → suc i ≤ u → u < j → T (f u) → ⊥)
          → P (some j)
      found_later no-i j h k t before = found j (omega arith) (omega arith) t (λ u a b. past no-i u a (λ c. before u c b))

      none_later : (T (f i) → ⊥) → ((u : ℕ) → suc i ≤ u → u < suc i + n → T (f u) → ⊥) → P none
      none_later no-i after = nothing (λ u a b. past no-i u a (λ c. after u c (omega arith)))

      go :
          (b : Bool)
          → (T b → T (f i))
          → ((T b → ⊥) → P (first_from f (suc i) n))
          → P (elim b [ true ↦ some i | false ↦ first_from f (suc i) n ])
      go true yes-i later = found i (omega arith) (omega arith) (yes-i tt) (λ u h k t. omega arith)
      go false yes-i later = later (λ t. t)

pub searched_start : (f : ℕ → Bool) (n : ℕ) → Searched f n 0
searched_start f n = record { within = omega arith; same = ap (first_from f 0) (omega arith) }

module _ {f : ℕ → Bool} {n i : ℕ} (s : Searched f n i) where
  pub searched_next : i < n → f i ≡ false → Searched f n (i + 1)
  unfolding first_from
  searched_next h t =
      let e : n - i ≡ suc (n - (i + 1)) = omega arith in
      record { within = omega arith; same = s.same ∙ rw (e, first_from, t, add-one i) refl }

  pub searched_found : i < n → f i ≡ true → first_from f 0 n ≡ some i
  unfolding first_from
  searched_found h t = let e : n - i ≡ suc (n - suc i) = omega arith in s.same ∙ rw (e, first_from, t) refl

  pub searched_all : n ≤ i → first_from f 0 n ≡ none
  unfolding first_from
  searched_all h = let e : n - i ≡ 0 = omega arith in s.same ∙ rw e refl

module _ {A : Type 0} (f : ℕ → A → A) where
  -- what each step keeps, the fold keeps
  pub fold_below_induction :
      (P : ℕ → A → Type 0) (n : ℕ) (a : A)
      → P zero a
      → ((i : ℕ) (x : A) → i < n → P i x → P (suc i) (f i x))
      → P n (fold_below f n a)
  unfolding fold_below
  fold_below_induction P zero a start step = start
  fold_below_induction P (suc n) a start step =
      step n (fold_below f n a) (omega arith) (fold_below_induction P n a start (λ i x h. step i x (omega arith)))

module _ {A : Type 0} (f : ℕ → A) where
  pub length_tabulate : (i n : ℕ) → length (tabulate f i n) ≡ n
  unfolding tabulate
  length_tabulate i zero = refl
  length_tabulate i (suc n) = ap suc (length_tabulate (suc i) n)

  pub get_d_tabulate : (i n j : ℕ) (d : A) → j < n → get_or (tabulate f i n) j d ≡ f (i + j)
  unfolding tabulate
  get_d_tabulate i zero j d h = absurd (not-suc-le-zero h)
  get_d_tabulate i (suc n) zero d h = ap f (sym (add-zero i))
  get_d_tabulate i (suc n) (suc j) d h = get_d_tabulate (suc i) n j d (omega arith) ∙ ap f (suc-add i j ∙ sym (add-suc i j))

-- two tables are equal if their entries are
pub tabulate_same :
    {A : Type 0} (f g : ℕ → A) (i n : ℕ)
    → ((j : ℕ) → i ≤ j → j < i + n → f j ≡ g j)
    → tabulate f i n ≡ tabulate g i n
unfolding tabulate
tabulate_same f g i zero h = refl
tabulate_same {A} f g i (suc n) h =
    rw (h i (omega arith) (omega arith), tabulate_same f g (suc i) n (λ j a b. h j (omega arith) (omega arith))) refl
