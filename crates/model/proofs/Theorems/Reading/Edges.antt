-- An edge means the plain thing: a := effect on v of some move has a term on u in its sum, and the term's weight is not 0. With
-- `Circles.no_circle_lem` this is all that refusal 7 looks at. Assumes nothing.
use Rattle.std.specs.Prelude.{ℕ, ◌≡◌, refl, ◌↔◌, Bool, ◌&&◌, eqb}
use Rattle.std.proofs.Common.{eq-eqb}
use Rattle.std.proofs.Math.Dec.{T, eqb→eq}
use Rattle.model.specs.Lists.{In, any}
use Rattle.model.specs.Task.{Term, kept, Kind, assign, increase, decrease, Effect, Item, need, add, delete, condition, effect, Block, Task}
use Rattle.model.specs.Circle.{is_assign, item_edge, edge}
use Rattle.model.proofs.Theorems.Laws.Booleans.{true_t, and_left, and_right, and_both}
use Rattle.model.proofs.Theorems.Laws.Listed.{any_in, any_who}
use Rattle.model.proofs.Theorems.Reading.Kept.{kept_in, in_kept}
use Rattle.model.specs.Theorems.Reading.Edges.{Drawn}

is_assign_lem : (k : Kind) → T (is_assign k) → k ≡ assign
unfolding is_assign
is_assign_lem assign t = refl
is_assign_lem increase t = absurd t
is_assign_lem decrease t = absurd t

module _ (k : Task) (u v : ℕ) where
  abbrev on_v : Effect → Bool
  on_v e = is_assign e.kind && eqb e.var v

  abbrev on_u : Term → Bool
  on_u w = eqb w.var u

  item_drawn : (m : Block) → In m k.moves → (i : Item) → In i m → T (item_edge u v i) → Drawn k u v
  unfolding item_edge
  item_drawn m h (need p) i t = absurd t
  item_drawn m h (add p) i t = absurd t
  item_drawn m h (delete p) i t = absurd t
  item_drawn m h (condition c) i t = absurd t
  item_drawn m h (effect e) i t =
      let both : T (on_v e) = and_left (on_v e) (any on_u (kept e.terms)) t in
      any_who on_u (kept e.terms) (and_right (on_v e) (any on_u (kept e.terms)) t)
      (λ w j s.
      let stands = kept_in w e.terms j in
      record {
        move = m;
        in_task = h;
        assignment = e;
        in_move = i;
        kind = is_assign_lem e.kind (and_left (is_assign e.kind) (eqb e.var v) both);
        target = eqb→eq e.var v (and_right (is_assign e.kind) (eqb e.var v) both);
        term = w;
        in_sum = stands.0;
        source = eqb→eq w.var u s;
        weighs = stands.1;
      })

  edge_drawn : T (edge k u v) → Drawn k u v
  unfolding edge
  edge_drawn t =
      any_who (λ m. any (item_edge u v) m) k.moves t
      (λ m h s. any_who (item_edge u v) m s (item_drawn m h))

  drawn_edge : Drawn k u v → T (edge k u v)
  unfolding edge item_edge is_assign
  drawn_edge r =
      let e : Effect = r.assignment in
      let reads : T (any on_u (kept e.terms)) =
      any_in on_u r.term (kept e.terms) (in_kept r.term e.terms r.in_sum r.weighs)
      (true_t (eq-eqb r.term.var u r.source))
      in
      let assigns : T (is_assign e.kind) = rw r.kind tt in
      let on : T (on_v e) =
      and_both (is_assign e.kind) (eqb e.var v) assigns (true_t (eq-eqb e.var v r.target))
      in
      any_in (λ m. any (item_edge u v) m) r.move k.moves r.in_task
      (any_in (item_edge u v) (effect e) r.move r.in_move (and_both (on_v e) (any on_u (kept e.terms)) on reads))

  -- the edges that the check for a circle follows are those of terms whose weight is not 0, and no other
  pub edge_means : T (edge k u v) ↔ Drawn k u v
  edge_means = (edge_drawn, drawn_edge)
