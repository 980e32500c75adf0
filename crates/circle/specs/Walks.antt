-- The edges of := effects as a table of 32 by 32 tests, and the walks along them: a circle is there exactly if a walk of as many
-- edges as there are variables is. Assumes nothing.
use Prim.Native.Nat.{ℕ, zero, suc, ◌+◌, ◌*◌, ◌<◌}
use Rattle.std.proofs.Common.{arith, add-suc, add-zero}
use Rattle.std.specs.Prelude.{◌≡◌, Bool, ◌&&◌, List, T, get_or}
use Rattle.std.proofs.Math.Path.{refl}
use Rattle.std.proofs.Math.Bool.{true, false}
use Rattle.model.specs.Lists.{any_below}
use Rattle.model.specs.Task.{Task}
use Rattle.model.specs.Circle.{edge, walk_to, circular}
use Rattle.model.proofs.Theorems.Laws.Booleans.{not-false, false_not, and_left, and_right, and_both}
use Rattle.model.proofs.Theorems.Laws.Searching.{any_below_cases, any_below_at}

unfoldable pub table_edge : List Bool → ℕ → ℕ → Bool
table_edge es u v = get_or es (u * 32 + v) false

pub any_below_same : (f g : ℕ → Bool) (n : ℕ) → ((i : ℕ) → i < n → f i ≡ g i) → any_below f n ≡ any_below g n
unfolding any_below
any_below_same f g zero e = refl
any_below_same f g (suc n) e = rw (any_below_same f g n (λ i h. e i (omega arith)), e n (omega arith)) refl

-- does a walk of m edges of the table end in v
unfoldable pub walk_in : List Bool → ℕ → ℕ → ℕ → Bool
walk_in es n zero v = true
walk_in es n (suc m) v = any_below (λ u. table_edge es u v && walk_in es n m u) n

unfoldable pub circular_in : List Bool → ℕ → Bool
circular_in es n = any_below (walk_in es n n) n

-- where no walk of m edges ends, none of more edges does
pub none_longer : (es : List Bool) (n m j : ℕ) → any_below (walk_in es n m) n ≡ false → any_below (walk_in es n (m + j)) n ≡ false
none_longer es n m zero h = rw (add-zero m) h
none_longer es n m (suc j) h =
    rw (add-suc m j)
    (not-false (any_below (walk_in es n (suc (m + j))) n)
    (λ t. any_below_cases (walk_in es n (suc (m + j))) n t
    (λ v l s. any_below_cases (λ u. table_edge es u v && walk_in es n (m + j) u) n (unfold walk_in in s)
    (λ u k r. false_not (none_longer es n m j h) (any_below_at (walk_in es n (m + j)) n u k (and_right (table_edge es u v) (walk_in es n (m + j) u) r))))))

-- a walk that ends in v holds one of an edge less that does
pub walk_shorter : (es : List Bool) (n m v : ℕ) → T (walk_in es n (suc m) v) → T (walk_in es n m v)
unfolding walk_in
walk_shorter es n zero v t = tt
walk_shorter es n (suc m) v t =
    any_below_cases (λ u. table_edge es u v && walk_in es n (suc m) u) n t
    (λ u h s.
    any_below_at (λ w. table_edge es w v && walk_in es n m w) n u h
    (and_both (table_edge es u v) (walk_in es n m u) (and_left (table_edge es u v) (walk_in es n (suc m) u) s)
    (walk_shorter es n m u (and_right (table_edge es u v) (walk_in es n (suc m) u) s))))

module _ (k : Task) (es : List Bool) (same : (u v : ℕ) → u < k.vars → v < k.vars → table_edge es u v ≡ edge k u v) where
  walk_same : (m v : ℕ) → v < k.vars → walk_in es k.vars m v ≡ walk_to k m v
  unfolding walk_in walk_to
  walk_same zero v h = refl
  walk_same (suc m) v h =
      any_below_same (λ u. table_edge es u v && walk_in es k.vars m u) (λ u. elim (edge k u v) [ true ↦ walk_to k m u | false ↦ false ]) k.vars
      (λ u l. rw (same u v l h, walk_same m u l) (go (edge k u v) (walk_to k m u)))
    where
      go : (a b : Bool) → (a && b) ≡ elim a [ true ↦ b | false ↦ false ]
      go true b = refl
      go false b = refl

  pub circular_same : circular_in es k.vars ≡ circular k
  unfolding circular_in circular
  circular_same = any_below_same (walk_in es k.vars k.vars) (walk_to k k.vars) k.vars (walk_same k.vars)
