-- The normal form of a task without a circle has none: an edge between signed variables is one between their variables.
-- Assumes nothing.
use Rattle.std.specs.Prelude.{ℕ, ◌+◌, ◌*◌, ◌/◌, ◌≡◌, refl, false, ◌&&◌, ◌||◌, List, map, ℤ}
use Rattle.std.proofs.Common.{arith, eq-eqb}
use Rattle.std.proofs.Math.Bool.{Bool, or-false}
use Rattle.std.proofs.Math.Dec.{T, eqb, eqb→eq}
use Rattle.model.specs.Lists.{any}
use Rattle.model.specs.Task.{Term, kept, Kind, assign, increase, decrease, Item, need, add, delete, condition, effect, Block, Task}
use Rattle.model.specs.NormalForm.{negated, signed_term, signed_sum, mirrored, normal_effect, normal_item, normal_block, normal_task}
use Rattle.model.specs.Circle.{is_assign, item_edge, edge, Walk, one, more, Circle, circular}
use Rattle.model.proofs.Theorems.Laws.Booleans.{true_t, T_true, and_left, and_right, and_both, or_cases, not-false}
use Rattle.model.specs.Theorems.Reading.Circles.{EdgesWithin}
use Rattle.model.proofs.Theorems.Reading.Circles.{circular_circle, no_circle_lem}
use Rattle.model.proofs.Theorems.Reading.Kept.{kept_any, kept_negated}
use Rattle.model.specs.Theorems.NormalForm.SignedSums.{negative}
use Rattle.model.proofs.Theorems.NormalForm.SignedSums.{signed_var, negated_map}
use Rattle.model.proofs.Theorems.NormalForm.Blocks.{any_map, any_implies, any_normal, any_condition}

-- does w stand in the sum
abbrev stands : ℕ → List Term → Bool
stands w ts = any (λ (t : Term). eqb t.var w) ts

module _ (u v : ℕ) where
  -- where u stands in a signed sum, its variable stands in what is kept of the sum that it comes from
  signed_stands : (ts : List Term) → T (stands u (kept (signed_sum ts))) → T (stands (u / 2) (kept ts))
  unfolding signed_sum
  signed_stands ts h =
      any_implies (λ (t : Term). eqb (signed_term t).var u) (λ (t : Term). eqb t.var (u / 2)) half (kept ts)
      (rw (any_map (λ (t : Term). eqb t.var u) signed_term (kept ts))
      at (kept_any (λ (t : Term). eqb t.var u) (map signed_term (kept ts)) h))
    where
      half : (t : Term) → T (eqb (signed_term t).var u) → T (eqb t.var (u / 2))
      half t k =
          let same : (signed_term t).var ≡ u = eqb→eq (signed_term t).var u k in
          true_t (eq-eqb t.var (u / 2) (omega (arith, signed_var t)))

  negated_stands : (ts : List Term) → T (stands u (kept (signed_sum (negated ts)))) → T (stands (u / 2) (kept ts))
  negated_stands ts h =
      rw (any_map (λ (t : Term). eqb t.var (u / 2)) negative (kept ts))
      at (rw (kept_negated ts, ← negated_map (kept ts)) at (signed_stands (negated ts) h))

  -- an effect on i with the sum ns, written for an effect on w with the sum ts
  side_edge :
      (i w : ℕ) (ns ts : List Term)
      → i / 2 ≡ w
      → (T (stands u ns) → T (stands (u / 2) ts))
      → T (eqb i v && stands u ns)
      → T (eqb w (v / 2) && stands (u / 2) ts)
  side_edge i w ns ts half f h =
      let same : i ≡ v = eqb→eq i v (and_left (eqb i v) (stands u ns) h) in
      and_both (eqb w (v / 2)) (stands (u / 2) ts) (true_t (eq-eqb w (v / 2) (omega arith)))
      (f (and_right (eqb i v) (stands u ns) h))

  effect_edge :
      (k : Kind) (w : ℕ) (ts : List Term) (c : ℤ)
      → T (any (item_edge u v) (normal_effect k w ts c))
      → T (is_assign k && eqb w (v / 2) && stands (u / 2) (kept ts))
  unfolding any item_edge is_assign normal_effect mirrored
  effect_edge assign w ts c h =
      or_cases (even && stands u (kept (signed_sum ts))) (odd && stands u (kept (signed_sum (negated ts))) || false) h
      (side_edge (2 * w) w (kept (signed_sum ts)) (kept ts) (omega arith) (signed_stands ts))
      (λ k. side_edge (2 * w + 1) w (kept (signed_sum (negated ts))) (kept ts) (omega arith) (negated_stands ts) (rw or-false at k))
    where
      even : Bool
      even = eqb (2 * w) v

      odd : Bool
      odd = eqb (2 * w + 1) v
  effect_edge increase w ts c h = h
  effect_edge decrease w ts c h = h

  item_edge_lem : (i : Item) → T (any (item_edge u v) (normal_item i)) → T (item_edge (u / 2) (v / 2) i)
  unfolding any item_edge normal_item
  item_edge_lem (need p) h = h
  item_edge_lem (add p) h = h
  item_edge_lem (delete p) h = h
  item_edge_lem (condition c) h =
      rw (any_condition (item_edge u v) (λ d. refl) c.comparison c.terms c.bound) at h
  item_edge_lem (effect e) h = effect_edge e.kind e.var e.terms e.base h

  block_edge : (b : Block) → T (any (item_edge u v) (normal_block b)) → T (any (item_edge (u / 2) (v / 2)) b)
  block_edge b h =
      any_implies (λ i. any (item_edge u v) (normal_item i)) (item_edge (u / 2) (v / 2)) item_edge_lem b
      (rw (any_normal (item_edge u v) b) at h)

  -- "Draw an edge from u to v if u is in the sum of a := effect on v": an edge of the normal form joins signed variables of
  -- two variables that an edge joins.
  pub normal_edge : (k : Task) → T (edge (normal_task k) u v) → T (edge k (u / 2) (v / 2))
  unfolding edge normal_task
  normal_edge k h =
      any_implies (λ m. any (item_edge u v) (normal_block m)) (λ m. any (item_edge (u / 2) (v / 2)) m) block_edge k.moves
      (rw (any_map (λ m. any (item_edge u v) m) normal_block k.moves) at h)

normal_walk : (k : Task) {u v : ℕ} → Walk (normal_task k) u v → Walk k (u / 2) (v / 2)
normal_walk k {u} {v} (one h) = one (normal_edge u v k h)
normal_walk k {u} (more {v = v} h w) = more (normal_edge u v k h) (normal_walk k w)

-- "the edges have no circle": nor have those of the normal form.
pub normal_no_circle : (k : Task) → EdgesWithin k → circular k ≡ false → circular (normal_task k) ≡ false
normal_no_circle k within none =
    not-false (circular (normal_task k)) (λ h.
    let round : Circle (normal_task k) = circular_circle (normal_task k) (T_true (circular (normal_task k)) h) in
    (no_circle_lem within).0 none (round.0 / 2, normal_walk k round.1))
