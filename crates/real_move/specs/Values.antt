-- Values in range. Assumes nothing.
use Rattle.std.specs.Prelude.{ℕ, ◌+◌, ◌≤◌, ◌<◌, ◌≡◌, refl, T, Bool, true, false, ◌&&◌, List, ℤ, pos, nat_abs, length, get_or, zero, suc, take}
use Rattle.std.specs.List.{list_all}
use Rattle.std.proofs.lemmas.List.Folds.{list_all_more}
use Rattle.std.proofs.Common.{add-one, arith, sym, ◌∙◌, subst}
use Rattle.std.proofs.Math.Path.{ap}
use Rattle.model.specs.Limits.{paper}
use Rattle.model.specs.Lists.{all_below}
use Rattle.model.specs.StateTable.{value_in_range}
use Rattle.model.proofs.Theorems.Laws.Booleans.{T_true, T-equal, true_t, false_not, not-false}
use Rattle.model.proofs.Theorems.Laws.Searching.{all_below_at, at_all_below}
use Rattle.state.specs.Checking.{range_size}

-- ---- 12: "a result beyond ±1,000,000"

unfoldable pub all_in_range : List ℤ → ℕ → Bool
all_in_range values vars = all_below (λ v. value_in_range paper (get_or values v (pos 0))) vars

module _ (f : ℕ → Bool) where
  and-true : (a b : Bool) → a ≡ true → b ≡ true → (a && b) ≡ true
  and-true a b p q = rw (p, q) refl

  pub all_next : (n : ℕ) → all_below f n ≡ true → f n ≡ true → all_below f (n + 1) ≡ true
  unfolding all_below
  all_next n e g = ap (all_below f) (add-one n) ∙ and-true (all_below f n) (f n) e g

  -- one that fails is enough
  pub all_fails : (n i : ℕ) → i < n → f i ≡ false → all_below f n ≡ false
  all_fails n i h e = not-false (all_below f n) (λ t. false_not e (all_below_at f n t i h))

-- of the first n values
pub first_in_range : (values : List ℤ) (n : ℕ) → n ≤ length values → list_all (value_in_range paper) (take n values) ≡ all_in_range values n
unfolding all_in_range all_below
first_in_range values zero h = refl
first_in_range values (suc n) h =
    rw (← add-one n, list_all_more (value_in_range paper) values n (pos 0)) (ap (λ (b : Bool). b && value_in_range paper (get_or values n (pos 0))) (first_in_range values n (omega arith)))

-- each value is in range
pub all_small : (values : List ℤ) (vars : ℕ) → all_in_range values vars ≡ true → (v : ℕ) → v < vars → nat_abs (get_or values v (pos 0)) ≤ 1_000_000
unfolding all_in_range
all_small values vars e v h =
    range_size (get_or values v (pos 0))
    (T_true (value_in_range paper (get_or values v (pos 0))) (all_below_at (λ u. value_in_range paper (get_or values u (pos 0))) vars (true_t e) v h))

-- only what stands below the counts matters
pub all_same : (f g : ℕ → Bool) (n : ℕ) → ((i : ℕ) → i < n → f i ≡ g i) → all_below f n ≡ all_below g n
all_same f g n e =
    T-equal (all_below f n) (all_below g n)
    (λ t. at_all_below g n (λ i h. subst T (e i h) (all_below_at f n t i h)))
    (λ t. at_all_below f n (λ i h. subst T (sym (e i h)) (all_below_at g n t i h)))
