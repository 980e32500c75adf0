-- One command further: past a proposition, a condition or an effect. Assumes nothing.
use Prim.Native.Nat.{ℕ, zero, suc, ◌+◌, ◌<◌}
use Rattle.std.proofs.Common.{arith, ◌∙◌, subst}
use Rattle.std.specs.Prelude.{◌≡◌, Bool, ◌&&◌, ◌||◌, List, [], ◌∷◌, ◌++◌, eqb, ℤ, set}
use Rattle.std.proofs.Math.Path.{refl, sym, ap, ap₂, subst₂}
use Rattle.std.proofs.Math.Bool.{true, false}
use Rattle.std.proofs.Math.Option.{some}
use Rattle.std.proofs.Math.ListN.{get_or}
use Rattle.model.specs.Task.{Item, need, add, delete, condition, effect, Condition, Effect, clashes}
use Rattle.model.specs.Task as task
use Rattle.model.specs.Circle.{is_assign, item_edge}
use Rattle.model.specs.Command.{Command, need_prop, add_prop, delete_prop, close_condition, close_effect, width, in_move, in_place, start}
use Rattle.model.specs.Seen.{Seen, byte_after, number_after, comparison_of, kind_of, item_at, closed, with_item, advance}
use Rattle.model.proofs.Theorems.Reading.Commands.{width_positive}
use Rattle.cursor.specs.declared.Cursor.{Cursor}
use Rattle.command.specs.declared.Place as code
use Rattle.command.specs.declared.Place.TheVariants.{Start, Preamble, InMove, InGoal, Finished}
use Rattle.command.specs.Names.{place_of}
use Rattle.cursor.specs.State.{item_cursor, Valid, Passed}
use Rattle.cursor.proofs.Passing.{need_range, add_range, delete_range, effect_range}
use Rattle.advance.specs.Stamps.{or-false, or-true, needs, changes, affects, Stamped, stamped_other, stamped_here}
use Rattle.advance.specs.Edges.{Drawn, length_draw, draw_at, closed_more, closed_other}
use Rattle.advance.specs.Tracks.{open_from, Tracks}
use Rattle.advance.specs.Steps.{Advanced, impossible, item_valid, item_moved, item_tracks, no_edge, elsewhere}
use Rattle.advance.specs.Edges.{draw_kind}

module _ {t : List ℕ} {c : Cursor} {nd ch af : List ℕ} {es : List Bool} {mk : List ℕ} (v : Valid t c) where
  -- an item that names one proposition
  prop_item :
      (k : Command) (g : ℕ → Item) (p : ℕ) (a : Bool) {r : Cursor} {nd' ch' : List ℕ}
      → Passed t c nd ch af k
      → in_place start k ≡ false
      → ((s : Seen) → advance t s k ≡ with_item s (width k) (some (g (byte_after t s 1))))
      → p ≡ get_or t (c.at + 1) 0
      → r ≡ item_cursor c (width k) a
      → a ≡ (c.active || task.changes (g p))
      → ((s : Seen) → Tracks t c nd ch af es mk s → Stamped needs 120 c.stamp (s.items ++ (g p ∷ [])) nd')
      → ((s : Seen) → Tracks t c nd ch af es mk s → Stamped changes 120 c.stamp (s.items ++ (g p ∷ [])) ch')
      → ((q : ℕ) → affects q (g p) ≡ false)
      → ((u w : ℕ) → item_edge u w (g p) ≡ false)
      → Advanced t c k nd ch af es mk r nd' ch' af es mk
  prop_item k g p a {r} {nd'} {ch'} pass inner step e f does needed' changed' no_effect edgeless =
      rw f
      (record {
        valid = item_valid v (width k) pass.uncut (width_positive k) a;
        moved = item_moved v (width k) pass.uncut (width_positive k) a;
        tracks = λ s h.
            subst (λ (d : Seen). Tracks t (item_cursor c (width k) a) nd' ch' af es mk d) (sym (step s ∙ ap (λ (x : ℕ). with_item s (width k) (some (g x))) (sym (here s h))))
            (item_tracks h (width k) a (g p) (elsewhere h k inner pass.placed) does (needed' s h) (changed' s h)
            (stamped_other h.affected (g p) no_effect) (no_edge h (g p) edgeless));
      })
    where
      here : (s : Seen) → Tracks t c nd ch af es mk s → p ≡ byte_after t s 1
      here s h = e ∙ (unfold byte_after in ap (λ (x : ℕ). get_or t (x + 1) 0) h.at)

  pub advance_need :
      (p : ℕ) {r : Cursor} → Passed t c nd ch af need_prop → p ≡ get_or t (c.at + 1) 0 → r ≡ item_cursor c (width need_prop) c.active
      → Advanced t c need_prop nd ch af es mk r (set nd p c.stamp) ch af es mk
  unfolding advance item_at in_place needs changes affects clashes item_edge task.changes
  advance_need p pass e f =
      prop_item need_prop need p c.active pass refl (λ s. refl) e f (sym (or-false c.active))
      (λ s h. stamped_here h.needed (need p) p (λ q. refl) (omega (arith, need_range t c pass.ranged, v.props)))
      (λ s h. stamped_other h.changed (need p) (λ q. refl)) (λ q. refl) (λ u w. refl)

  pub advance_add :
      (p : ℕ) {r : Cursor} → Passed t c nd ch af add_prop → p ≡ get_or t (c.at + 1) 0 → r ≡ item_cursor c (width add_prop) true
      → Advanced t c add_prop nd ch af es mk r nd (set ch p c.stamp) af es mk
  unfolding advance item_at in_place needs changes affects clashes item_edge task.changes
  advance_add p pass e f =
      prop_item add_prop add p true pass refl (λ s. refl) e f (sym (or-true c.active))
      (λ s h. stamped_other h.needed (add p) (λ q. refl))
      (λ s h. stamped_here h.changed (add p) p (λ q. refl) (omega (arith, add_range t c pass.ranged, v.props)))
      (λ q. refl) (λ u w. refl)

  pub advance_delete :
      (p : ℕ) {r : Cursor} → Passed t c nd ch af delete_prop → p ≡ get_or t (c.at + 1) 0 → r ≡ item_cursor c (width delete_prop) true
      → Advanced t c delete_prop nd ch af es mk r nd (set ch p c.stamp) af es mk
  unfolding advance item_at in_place needs changes affects clashes item_edge task.changes
  advance_delete p pass e f =
      prop_item delete_prop delete p true pass refl (λ s. refl) e f (sym (or-true c.active))
      (λ s h. stamped_other h.needed (delete p) (λ q. refl))
      (λ s h. stamped_here h.changed (delete p) p (λ q. refl) (omega (arith, delete_range t c pass.ranged, v.props)))
      (λ q. refl) (λ u w. refl)

  pub advance_condition :
      {r : Cursor} → Passed t c nd ch af close_condition → r ≡ item_cursor c (width close_condition) c.active
      → Advanced t c close_condition nd ch af es mk r nd ch af es mk
  unfolding advance item_at in_place
  advance_condition k f =
      rw f
      (record {
        valid = item_valid v (width close_condition) k.uncut (width_positive close_condition) c.active;
        moved = item_moved v (width close_condition) k.uncut (width_positive close_condition) c.active;
        tracks = λ s h. closes s h (record { terms = s.terms; comparison = comparison_of (byte_after t s 1); bound = number_after 4 t s 2 });
      })
    where
      closes : (s : Seen) → Tracks t c nd ch af es mk s → (d : Condition) → Tracks t (item_cursor c (width close_condition) c.active) nd ch af es mk (with_item s (width close_condition) (some (condition d)))
      closes s h d =
          item_tracks h (width close_condition) c.active (condition d) (elsewhere h close_condition refl k.placed)
          (unfold task.changes in (sym (or-false c.active)))
          (stamped_other h.needed (condition d) (λ q. unfold needs clashes in refl))
          (stamped_other h.changed (condition d) (λ q. unfold changes clashes in refl))
          (stamped_other h.affected (condition d) (λ q. unfold affects clashes in refl))
          (no_edge h (condition d) (λ u w. unfold item_edge in refl))

-- ---- effects

in_move_lem : (p : code.Place) → in_place (place_of p) close_effect ≡ true → place_of p ≡ in_move
unfolding in_place place_of
in_move_lem Start h = impossible h
in_move_lem Preamble h = impossible h
in_move_lem InMove h = refl
in_move_lem InGoal h = impossible h
in_move_lem Finished h = impossible h

module _ {t : List ℕ} {c : Cursor} {nd ch af : List ℕ} {es : List Bool} {mk : List ℕ} (v : Valid t c) where
  effect_drawn :
      (s : Seen) (h : Tracks t c nd ch af es mk s) (q p : ℕ) (z : ℤ) → p < 32 → s.place ≡ in_move
      → Drawn (closed s.place s.moves (s.items ++ (effect (record { kind = kind_of q; var = p; terms = s.terms; base = z }) ∷ []))) (draw_kind q t (open_from c) p c.terms es)
  effect_drawn s h q p z small here = rw here (go q)
    where
      e : ℕ → Effect
      e x = record { kind = kind_of x; var = p; terms = s.terms; base = z }

      before : Drawn (closed in_move s.moves s.items) es
      before = rw here at h.edges

      go : (x : ℕ) → Drawn (closed in_move s.moves (s.items ++ (effect (e x) ∷ []))) (draw_kind x t (open_from c) p c.terms es)
      go zero =
          unfold draw_kind in
          (record {
            size = length_draw t (open_from c) p c.terms es ∙ h.edges.size;
            same = λ u w a b.
                draw_at t (open_from c) p es h.edges.size small c.terms v.sources u w a b
                ∙ ap₂ (λ (x y : Bool). x || (eqb p w && y)) (before.same u w a b) (sym (h.sources u))
                ∙ sym (closed_more (item_edge u w) s.moves s.items (effect (e zero)) ∙ (unfold item_edge kind_of is_assign in refl));
          })
      go (suc x) =
          unfold draw_kind in
          (record {
            size = h.edges.size;
            same = λ u w a b. before.same u w a b ∙ sym (closed_other (item_edge u w) in_move s.moves s.items (effect (e (suc x))) (none x u w));
          })
        where
          none : (y u w : ℕ) → item_edge u w (effect (e (suc y))) ≡ false
          none zero u w = unfold item_edge kind_of is_assign in refl
          none (suc y) u w = unfold item_edge kind_of is_assign in refl

  pub advance_effect :
      (q p : ℕ) {r : Cursor} {es' : List Bool} → Passed t c nd ch af close_effect → q ≡ get_or t (c.at + 1) 0 → p ≡ get_or t (c.at + 2) 0
      → es' ≡ draw_kind q t (open_from c) p c.terms es → r ≡ item_cursor c (width close_effect) true
      → Advanced t c close_effect nd ch af es mk r nd ch (set af p c.stamp) es' mk
  unfolding advance item_at in_place byte_after
  advance_effect q p k eq ep ed f =
      rw (f, ed)
      (record {
        valid = item_valid v (width close_effect) k.uncut (width_positive close_effect) true;
        moved = item_moved v (width close_effect) k.uncut (width_positive close_effect) true;
        tracks = λ s h.
            subst₂ (λ (x y : ℕ). Tracks t (item_cursor c (width close_effect) true) nd ch (set af p c.stamp) (draw_kind q t (open_from c) p c.terms es) mk (with_item s (width close_effect) (some (effect (record { kind = kind_of x; var = y; terms = s.terms; base = number_after 4 t s 3 })))))
            (eq ∙ ap (λ (x : ℕ). get_or t (x + 1) 0) h.at) (ep ∙ ap (λ (x : ℕ). get_or t (x + 2) 0) h.at) (closes s h (number_after 4 t s 3));
      })
    where
      small : p < 32
      small = omega (arith, effect_range t c k.ranged, v.vars)

      closes :
          (s : Seen) → Tracks t c nd ch af es mk s → (z : ℤ)
          → Tracks t (item_cursor c (width close_effect) true) nd ch (set af p c.stamp) (draw_kind q t (open_from c) p c.terms es) mk (with_item s (width close_effect) (some (effect (record { kind = kind_of q; var = p; terms = s.terms; base = z }))))
      closes s h z =
          item_tracks h (width close_effect) true (effect (record { kind = kind_of q; var = p; terms = s.terms; base = z })) (elsewhere h close_effect refl k.placed)
          (unfold task.changes in (sym (or-true c.active)))
          (stamped_other h.needed _ (λ x. unfold needs clashes in refl))
          (stamped_other h.changed _ (λ x. unfold changes clashes in refl))
          (stamped_here h.affected _ p (λ x. unfold affects clashes in refl) small)
          (effect_drawn s h q p z small (sym h.place ∙ in_move_lem c.place k.placed))
