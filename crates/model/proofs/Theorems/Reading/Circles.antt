-- Refusal 7 means what it says: the check `circular` finds a closed walk along the edges of := effects exactly where there is
-- one. Where there is none, each variable has a rank that every edge raises. Assumes nothing.
use Prim.Native.Nat.{ℕ, zero, suc, ◌≤◌, ◌<◌}
use Rattle.std.specs.Prelude.{◌≡◌, ◌↔◌, not, ◌&&◌, List, [], ◌∷◌}
use Rattle.std.proofs.Math.Path.{refl}
use Rattle.std.proofs.Common.{sym, subst, ◌∙◌, true≢false, T_not, eqb→eq}
use Rattle.std.proofs.Math.Bool.{Bool, true, false}
use native.Mathlib.Omega.{arith}
use Rattle.std.proofs.Math.Dec.{T, not_T, eqb, eqb_refl}
use Rattle.model.specs.Limits.{Limits}
use Rattle.model.specs.Lists.{any, any_below}
use Rattle.model.specs.Task.{kept, Form, Item, need, add, delete, condition, effect, Task}
use Rattle.model.specs.Circle.{is_assign, item_edge, edge, Walk, one, more, Circle, walk_to, circular}
use Rattle.model.specs.Theorems.Reading.WellFormed.{All, ItemOk, BlockOk, TermOk}
use Rattle.model.proofs.Theorems.Reading.Kept.{kept_all}
use Rattle.model.proofs.Theorems.Laws.Booleans.{T_true, true_t, not-false, false_not, T-cases, or_cases, and_left, and_right, and_both}
use Rattle.model.proofs.Theorems.Laws.Searching.{any_below_cases, any_below_at}
use Rattle.model.specs.Theorems.Laws.Counting.{count}
use Rattle.model.proofs.Theorems.Laws.Counting.{count_most, count_grows, count_mono, count_fewer, count_last, count_first}
use Rattle.model.specs.Theorems.Reading.Circles.{EdgesWithin, rank}

-- ---- the checks of a table's operands give that
-- who passed, among elements that all have P
any_among :
    {A X : Type 0} {P : A → Type 0} (f : A → Bool) (xs : List A)
    → All P xs
    → T (any f xs)
    → ((x : A) → P x → T (f x) → X)
    → X
unfolding any
any_among f [] a t g = absurd t
any_among f (x ∷ xs) a t g = or_cases (f x) (any f xs) t (g x a.0) (λ s. any_among f xs a.1 s g)

module _ (L : Limits) (f : Form) (props vars u v : ℕ) where
  item_within : (i : Item) → ItemOk L f props vars i → T (item_edge u v i) → (u < vars) × (v < vars)
  unfolding item_edge
  item_within (need p) h t = absurd t
  item_within (add p) h t = absurd t
  item_within (delete p) h t = absurd t
  item_within (condition c) h t = absurd t
  item_within (effect e) h t = (source, target)
    where
      on_v : Bool
      on_v = is_assign e.kind && eqb e.var v

      reads_u : Bool
      reads_u = any (λ w. eqb w.var u) (kept e.terms)

      source : u < vars
      source =
          any_among (λ w. eqb w.var u) (kept e.terms) (kept_all (TermOk L f vars) e.terms h.sum.terms) (and_right on_v reads_u t)
          (λ w w-ok s. rw (eqb→eq w.var u s) at w-ok.var)

      target : v < vars
      target = rw (eqb→eq e.var v (and_right (is_assign e.kind) (eqb e.var v) (and_left on_v reads_u t))) at h.var

module _ (L : Limits) (f : Form) (k : Task) (blocks : All (BlockOk L f k.props k.vars) k.moves) where
  edge_within : (u v : ℕ) → T (edge k u v) → (u < k.vars) × (v < k.vars)
  unfolding edge
  edge_within u v t =
      any_among (λ m. any (item_edge u v) m) k.moves blocks t
      (λ m h s. any_among (item_edge u v) m h.items s (item_within L f k.props k.vars u v))

  -- "v below V or N": the checks of single commands keep all edges between the variables
  pub edges_within : EdgesWithin k
  edges_within = record { source = λ u v t. (edge_within u v t).0; target = λ u v t. (edge_within u v t).1 }

-- ---- walks of n edges
-- the numbers left of a set of fresh ones once v was met
abbrev without : (ℕ → Bool) → ℕ → ℕ → Bool
without fresh v w = fresh w && not (eqb w v)

without_fewer : (fresh : ℕ → Bool) (n v : ℕ) → v < n → T (fresh v) → count (without fresh v) n < count fresh n
without_fewer fresh n v l new =
    count_grows (without fresh v) fresh n (λ w h. and_left (fresh w) (not (eqb w v))) v l
    (λ t. T_not (eqb v v) (and_right (fresh v) (not (eqb v v)) t) (eqb_refl v)) new

module _ (k : Task) where
  walk_to_cases :
      {X : Type 0} (n v : ℕ)
      → T (walk_to k (suc n) v)
      → ((u : ℕ) → u < k.vars → T (edge k u v) → T (walk_to k n u) → X)
      → X
  unfolding walk_to
  walk_to_cases {X} n v t f =
      any_below_cases (λ u. elim (edge k u v) [ true ↦ walk_to k n u | false ↦ false ]) k.vars t
      (λ u l s. go u l (edge k u v) refl s)
    where
      go : (u : ℕ) → u < k.vars → (b : Bool) → edge k u v ≡ b → T (elim b [ true ↦ walk_to k n u | false ↦ false ]) → X
      go u l true e s = f u l (true_t e) s
      go u l false e s = absurd s

  walk_to_step : (n u v : ℕ) → u < k.vars → T (edge k u v) → T (walk_to k n u) → T (walk_to k (suc n) v)
  unfolding walk_to
  walk_to_step n u v l e t =
      any_below_at (λ w. elim (edge k w v) [ true ↦ walk_to k n w | false ↦ false ]) k.vars u l
      (rw (T_true (edge k u v) e) t)

  walk_to_shorter : (n v : ℕ) → T (walk_to k (suc n) v) → T (walk_to k n v)
  unfolding walk_to
  walk_to_shorter zero v t = tt
  walk_to_shorter (suc n) v t =
      walk_to_cases (suc n) v t (λ u l e s. walk_to_step n u v l e (walk_to_shorter n u s))

  -- pigeonhole: go back along a walk of n edges that ends in v. If v was met before, there is a closed walk; else one number
  -- fewer is fresh, and there are no more fresh numbers than edges.
  meets_again :
      (n v : ℕ) (fresh : ℕ → Bool) → v < k.vars → T (walk_to k n v) → count fresh k.vars ≤ n
      → ((w : ℕ) → (T (fresh w) → ⊥) → Walk k v w)
      → Circle k
  meets_again zero v fresh l t few met =
      T-cases (fresh v) (λ new. absurd (omega (arith, few, without_fewer fresh k.vars v l new))) (λ old. (v, met v old))
  meets_again (suc n) v fresh l t few met =
      T-cases (fresh v)
      (λ new. walk_to_cases n v t
      (λ u h e s. meets_again n u (without fresh v) h s (omega (arith, few, without_fewer fresh k.vars v l new)) (back u e)))
      (λ old. (v, met v old))
    where
      back : (u : ℕ) → T (edge k u v) → (w : ℕ) → (T (without fresh v w) → ⊥) → Walk k u w
      back u e w gone =
          T-cases (eqb w v) (λ same. subst (λ (x : ℕ). Walk k u x) (sym (eqb→eq w v same)) (one e))
          (λ other. more e (met w (λ f. gone (and_both (fresh w) (not (eqb w v)) f (not_T (eqb w v) other)))))

  -- where the check refuses, there is a closed walk: a walk with as many edges as there are variables meets one of them twice
  pub circular_circle : circular k ≡ true → Circle k
  unfolding circular
  circular_circle e =
      any_below_cases (walk_to k k.vars) k.vars (true_t e)
      (λ v l t. meets_again k.vars v (λ w. true) l t (count_most (λ w. true) k.vars) (λ w none. absurd (none tt)))

module _ {k : Task} (within : EdgesWithin k) where
  -- a walk may be lengthened by another
  along : (n : ℕ) {u v : ℕ} → Walk k u v → T (walk_to k n u) → T (walk_to k (suc n) v)
  along n {u} {v} (one e) t = walk_to_step k n u v (within.source u v e) e t
  along n {u} {v} (more {v = w} e p) t =
      along n p (walk_to_shorter k n w (walk_to_step k n u w (within.source u w e) e t))

  -- so a closed walk, gone round again and again, has any number of edges
  round : (n : ℕ) {v : ℕ} → Walk k v v → T (walk_to k n v)
  unfolding walk_to
  round zero p = tt
  round (suc n) p = along n p (round n p)

  last : {u v : ℕ} → Walk k u v → v < k.vars
  last {u} {v} (one e) = within.target u v e
  last {u} {v} (more e p) = last p

  -- where there is a closed walk, the check refuses
  pub circle_circular : Circle k → circular k ≡ true
  unfolding circular
  circle_circular c =
      T_true (any_below (walk_to k k.vars) k.vars)
      (any_below_at (walk_to k k.vars) k.vars c.0 (last c.1) (round k.vars c.1))

  -- "the edges have no circle": a table passes the check for refusal 7 exactly if there is no closed walk
  pub no_circle_lem : (circular k ≡ false) ↔ (¬ Circle k)
  no_circle_lem = (
    λ e c. true≢false (sym (circle_circular c) ∙ e),
    λ none. not-false (circular k) (λ t. none (circular_circle k (T_true (circular k) t))),
  )

module _ {k : Task} (within : EdgesWithin k) (acyclic : circular k ≡ false) where
  no_long_walk : (v : ℕ) → v < k.vars → T (walk_to k k.vars v) → ⊥
  unfolding circular
  no_long_walk v l t = false_not acyclic (any_below_at (walk_to k k.vars) k.vars v l t)

  rank_below_by : (v n : ℕ) → v < n → (T (walk_to k n v) → ⊥) → count (λ i. walk_to k (suc i) v) n < n
  rank_below_by v zero l none = absurd (omega arith)
  rank_below_by v (suc n) l none = count_fewer (λ i. walk_to k (suc i) v) (suc n) n (omega arith) none

  -- without a circle the longest walk has fewer edges than there are variables
  pub rank_below : (v : ℕ) → v < k.vars → rank k v < k.vars
  unfolding rank
  rank_below v l = rank_below_by v k.vars l (no_long_walk v l)

  rank_rises_by :
      (u v n : ℕ) → T (edge k u v) → u < n → (T (walk_to k n u) → ⊥)
      → count (λ i. walk_to k (suc i) u) n < count (λ i. walk_to k (suc i) v) n
  unfolding walk_to
  rank_rises_by u v zero e l none = absurd (omega arith)
  rank_rises_by u v (suc n) e l none =
      let longer : (i : ℕ) → i < n → T (walk_to k (suc i) u) → T (walk_to k (suc (suc i)) v) =
      λ i h t. walk_to_step k (suc i) u v (within.source u v e) e t in
      omega (
        arith,
        count_last (λ i. walk_to k (suc i) u) n none,
        count_mono (λ i. walk_to k (suc i) u) (λ i. walk_to k (suc (suc i)) v) n longer,
        count_first (λ i. walk_to k (suc i) v) n (walk_to_step k zero u v (within.source u v e) e tt),
      )

  -- without a circle every edge raises the rank
  pub rank_rises : (u v : ℕ) → T (edge k u v) → rank k u < rank k v
  unfolding rank
  rank_rises u v e = rank_rises_by u v k.vars e (within.source u v e) (no_long_walk u (within.source u v e))
