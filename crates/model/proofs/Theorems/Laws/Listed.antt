-- What stands in a list, as laws of `In`: in two lists behind each other, at a place, in a table of values, where a test passes, where all pass.
-- Assumes nothing.
use Prim.Native.Nat.{ℕ, zero, suc, ◌+◌, ◌≤◌, ◌<◌}
use Rattle.std.proofs.Common.{arith, sym, ap, subst}
use Rattle.std.specs.Prelude.{◌≡◌, refl, Bool, length, get_or}
use Rattle.std.proofs.Math.Logic.{inl, inr}
use mathlib.Core.List.{List, [], ◌∷◌, ◌++◌}
use Rattle.std.proofs.Math.Dec.{T}
use Rattle.model.specs.Lists.{In, any, tabulate}
use Rattle.model.specs.Theorems.Reading.WellFormed.{All}
use Rattle.model.proofs.Theorems.Laws.Booleans.{or_left, or_right, or_cases}
use Rattle.model.proofs.Theorems.Laws.Searching.{below_suc}

module _ {A : Type 0} (x : A) where
  pub in_left : (xs ys : List A) → In x xs → In x (xs ++ ys)
  in_left [] ys i = absurd i
  in_left (y ∷ xs) ys (inl e) = inl e
  in_left (y ∷ xs) ys (inr i) = inr (in_left xs ys i)

  pub in_right : (xs ys : List A) → In x ys → In x (xs ++ ys)
  in_right [] ys i = i
  in_right (y ∷ xs) ys i = inr (in_right xs ys i)

  pub in_either : {X : Type 0} (xs ys : List A) → In x (xs ++ ys) → (In x xs → X) → (In x ys → X) → X
  in_either [] ys i f g = g i
  in_either (y ∷ xs) ys (inl e) f g = f (inl e)
  in_either (y ∷ xs) ys (inr i) f g = in_either xs ys i (λ j. f (inr j)) g

-- the element at a place of the list
pub in_at : {A : Type 0} (xs : List A) (n : ℕ) (d : A) → n < length xs → In (get_or xs n d) xs
in_at [] n d h = absurd (omega arith)
in_at (x ∷ xs) zero d h = inl refl
in_at (x ∷ xs) (suc n) d h = inr (in_at xs n d (omega arith))

-- what holds of all holds of each that stands in the list, and the other way round
module _ {A : Type 0} (P : A → Type 0) where
  pub All-in : (xs : List A) → All P xs → (x : A) → In x xs → P x
  All-in [] a x i = absurd i
  All-in (y ∷ ys) a x (inl e) = subst P (sym e) a.0
  All-in (y ∷ ys) a x (inr i) = All-in ys a.1 x i

  pub in_all : (xs : List A) → ((x : A) → In x xs → P x) → All P xs
  in_all [] f = tt
  in_all (x ∷ xs) f = (f x (inl refl), in_all xs (λ y i. f y (inr i)))

pub All-append :
    {A : Type 0} (P : A → Type 0) (xs ys : List A)
    → All P xs
    → All P ys
    → All P (xs ++ ys)
All-append P [] ys a b = b
All-append P (x ∷ xs) ys a b = (a.0, All-append P xs ys a.1 b)

-- some element passes where one in the list does; where one element alone can pass and some passes, that one is in the list
module _ {A : Type 0} (f : A → Bool) (x : A) where
  pub any_in : (xs : List A) → In x xs → T (f x) → T (any f xs)
  unfolding any
  any_in [] i t = absurd i
  any_in (y ∷ ys) (inl e) t = or_left (f y) (any f ys) (subst (λ z. T (f z)) e t)
  any_in (y ∷ ys) (inr i) t = or_right (f y) (any f ys) (any_in ys i t)

  pub in_any : ((y : A) → T (f y) → x ≡ y) → (xs : List A) → T (any f xs) → In x xs
  unfolding any
  in_any only [] t = t
  in_any only (y ∷ ys) t = or_cases (f y) (any f ys) t (λ h. inl (only y h)) (λ h. inr (in_any only ys h))

-- who passed
pub any_who : {A X : Type 0} (f : A → Bool) (xs : List A) → T (any f xs) → ((x : A) → In x xs → T (f x) → X) → X
unfolding any
any_who f [] t g = absurd t
any_who f (x ∷ xs) t g = or_cases (f x) (any f xs) t (g x (inl refl)) (λ h. any_who f xs h (λ y i. g y (inr i)))

-- what f gives for i, i + 1, .. is in its table, and nothing else
module _ {A : Type 0} (f : ℕ → A) where
  pub in_tabulate : (i n j : ℕ) → i ≤ j → j < i + n → In (f j) (tabulate f i n)
  unfolding tabulate
  in_tabulate i zero j h k = absurd (omega arith)
  in_tabulate i (suc n) j h k =
      below_suc i j (omega arith) (λ l. inr (in_tabulate (suc i) n j (omega arith) (omega arith))) (λ e. inl (ap f (sym e)))

  pub tabulate_in : {X : Type 0} (x : A) (i n : ℕ) → In x (tabulate f i n) → ((j : ℕ) → j < i + n → x ≡ f j → X) → X
  unfolding tabulate
  tabulate_in x i zero t g = absurd t
  tabulate_in x i (suc n) (inl e) g = g i (omega arith) e
  tabulate_in x i (suc n) (inr t) g = tabulate_in x (suc i) n t (λ j h. g j (omega arith))
