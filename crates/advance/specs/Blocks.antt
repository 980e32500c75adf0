-- One command further: past the head, past the start of a block, past the end of the table. Assumes nothing.
use Rattle.std.specs.Prelude.{ℕ, ◌+◌, ◌≤◌, ◌<◌, ◌≡◌, refl, ◌⊎◌, Bool, true, set}
use Rattle.std.proofs.Common.{arith, ◌∙◌, inl, inr, length-append}
use Rattle.std.proofs.Math.Path.{sym, ap, subst}
use mathlib.Core.List.{List, [], ◌∷◌, ◌++◌}
use Rattle.std.proofs.Math.Dec.{leb-zero}
use Rattle.std.proofs.Math.ListN.{length, get_or}
use borrow.Author.Tests.{leb-false, ltb-false}
use Rattle.model.specs.Lists.{all, any, any_below}
use Rattle.model.specs.Task.{kept, Block, active}
use Rattle.model.specs.Task as task
use Rattle.model.specs.Circle.{item_edge}
use Rattle.model.specs.Command.{Command, head, open_move, open_goal, end_table, unknown, width, Place, start, preamble, in_move, in_goal, finished, in_place}
use Rattle.model.specs.Seen.{Seen, nothing_seen, byte_after, closed, with_head, with_mark, advance}
use Rattle.model.specs.Reading.{opened}
use Rattle.model.proofs.Theorems.Reading.Commands.{width_positive, none_finished}
use Rattle.cursor.specs.declared.Cursor.{Cursor}
use Rattle.command.specs.declared.Form.{Form}
use Rattle.command.specs.declared.Place as code
use Rattle.command.specs.declared.Place.TheVariants.{Start, Preamble, InMove, InGoal, Finished}
use Rattle.command.specs.Names.{form_of, place_of}
use Rattle.command.specs.Checks.{miscounted}
use Rattle.cursor.specs.State.{head_cursor, mark_cursor, Stage, Valid, Passed}
use Rattle.cursor.proofs.Passing.{head_range}
use Rattle.advance.specs.Stamps.{needs, changes, affects, Stamped, stamped_new}
use Rattle.advance.specs.Edges.{Drawn, closed_new}
use Rattle.advance.specs.Marks.{Marks, marks_none, marks_more}
use Rattle.advance.specs.Tracks.{head_of, Tracks}
use Rattle.advance.specs.Steps.{Advanced, impossible, elsewhere}

-- ---- blocks and the end

-- one mark more has room in the array
pub mark_room : {t : List ℕ} {c : Cursor} (k : Command) → Valid t c → in_place (place_of c.place) k ≡ true → c.marked < 66
mark_room {t} {c} k v h = go c.place v.stage h
  where
    go : (p : code.Place) → Stage p c.opened c.moves c.marked → in_place (place_of p) k ≡ true → c.marked < 66
    go Start g e = omega (arith, v.moves, g.0, g.1)
    go Preamble g e = omega (arith, v.moves, g.0, g.1)
    go InMove g e = omega (arith, v.moves, g.0, g.1)
    go InGoal g e = omega (arith, v.moves, g.0, g.1)
    go Finished g e = impossible (sym (none_finished k) ∙ (unfold place_of in e))

module _ {t : List ℕ} {c : Cursor} (v : Valid t c) (room : c.at + 1 ≤ length t) where
  mark_valid : (p : code.Place) (o n : ℕ) → Stage p o c.moves (c.marked + 1) → 1 ≤ n → n ≤ c.at + 2 → Valid t (mark_cursor c p o n)
  unfolding mark_cursor
  mark_valid p o n g a b =
      record {
        inside = room;
        props = v.props;
        vars = v.vars;
        moves = v.moves;
        stage = g;
        few = omega arith;
        behind = omega arith;
        sources = λ i l. absurd (omega arith);
        numbered = a;
        blocks = omega (arith, b);
      }

module _ {t : List ℕ} {c : Cursor} {nd ch af : List ℕ} {es : List Bool} {mk : List ℕ} {s : Seen} (h : Tracks t c nd ch af es mk s) where
  mark_tracks :
      (p : code.Place) (q : Place) (o n : ℕ) (ms : List Block) (b : Block)
      → place_of p ≡ q
      → (q ≡ start → ⊥)
      → o ≡ opened q (length ms)
      → o ≡ length (closed q ms b)
      → Stamped needs 120 n b nd
      → Stamped changes 120 n b ch
      → Stamped affects 32 n b af
      → Drawn (closed q ms b) es
      → (q ≡ in_move → b ≡ [])
      → c.marked < 66
      → Tracks t (mark_cursor c p o n) nd ch af es (set mk c.marked c.at) (with_mark s q ms b)
  unfolding mark_cursor with_mark head_of all any any_below kept
  mark_tracks p q o n ms b e elsewhere ho hc a d f g empty room =
      record {
        at = ap (λ (x : ℕ). x + 1) h.at;
        place = e;
        header = h.header;
        opens = ho;
        closes = hc;
        terms = refl;
        rising = λ x. sym (leb-zero x);
        sources = λ u. refl;
        active = λ x. sym (ap active (empty x) ∙ (unfold active in refl));
        needed = a;
        changed = d;
        affected = f;
        edges = g;
        marked = ap (λ (x : ℕ). x + 1) h.marked ∙ sym (length-append s.marks (s.at ∷ []) ∙ omega arith);
        marks = subst (λ (x : ℕ). Marks (c.at + 1) (s.marks ++ (x ∷ [])) (set mk c.marked c.at)) h.at (marks_more h.marks c.marked h.marked room);
        begins = λ x. absurd (elsewhere x);
      }

not_first : (q : Place) → (q ≡ in_move) ⊎ ((q ≡ in_goal) ⊎ (q ≡ finished)) → q ≡ start → ⊥
not_first q (inl e) f = let z : ◌≡◌ {A = ℕ} 0 1 = cc in omega arith
not_first q (inr (inl e)) f = let z : ◌≡◌ {A = ℕ} 0 1 = cc in omega arith
not_first q (inr (inr e)) f = let z : ◌≡◌ {A = ℕ} 0 1 = cc in omega arith

-- the places behind the moves and before them
no_move : (q : Place) → (q ≡ preamble) ⊎ (q ≡ finished) → q ≡ in_move → ⊥
no_move q (inl e) f = let z : ◌≡◌ {A = ℕ} 0 1 = cc in omega arith
no_move q (inr e) f = let z : ◌≡◌ {A = ℕ} 0 1 = cc in omega arith

in_goal_lem : (p : code.Place) → in_place (place_of p) end_table ≡ true → p ≡ InGoal
unfolding in_place place_of
in_goal_lem Start h = impossible h
in_goal_lem Preamble h = impossible h
in_goal_lem InMove h = impossible h
in_goal_lem InGoal h = refl
in_goal_lem Finished h = impossible h

module _ {t : List ℕ} {c : Cursor} {nd ch af : List ℕ} {es : List Bool} {mk : List ℕ} (v : Valid t c) where
  pub advance_move :
      {r : Cursor} → Passed t c nd ch af open_move → r ≡ mark_cursor c InMove (c.opened + 1) (c.stamp + 1)
      → Advanced t c open_move nd ch af es mk r nd ch af es (set mk c.marked c.at)
  unfolding advance
  advance_move k f =
      rw f
      (record {
        valid = mark_valid v (unfold width in k.uncut) InMove (c.opened + 1) (c.stamp + 1) (stage c.place v.stage k.placed) (omega arith) (omega (arith, v.blocks));
        moved = unfold mark_cursor in omega arith;
        tracks = λ s h.
            mark_tracks h InMove in_move (c.opened + 1) (c.stamp + 1) (closed s.place s.moves s.items) [] (unfold place_of in refl) (not_first in_move (inl refl))
            (ap (λ (x : ℕ). x + 1) h.closes ∙ (unfold opened in omega arith))
            (ap (λ (x : ℕ). x + 1) h.closes ∙ sym (unfold closed in (length-append (closed s.place s.moves s.items) ([] ∷ []) ∙ omega arith)))
            (stamped_new h.needed) (stamped_new h.changed) (stamped_new h.affected)
            (record { size = h.edges.size; same = λ u w a b. h.edges.same u w a b ∙ sym (closed_new (item_edge u w) s.place s.moves s.items) })
            (λ x. refl)
            (mark_room open_move v k.placed);
      })
    where
      few : c.opened < c.moves
      few = leb-false c.moves c.opened (unfold miscounted in k.counted)

      stage : (p : code.Place) → Stage p c.opened c.moves c.marked → in_place (place_of p) open_move ≡ true → Stage InMove (c.opened + 1) c.moves (c.marked + 1)
      stage Start g e = (omega (arith, g.0), omega (arith, few))
      stage Preamble g e = (omega (arith, g.0), omega (arith, few))
      stage InMove g e = (omega (arith, g.0), omega (arith, few))
      stage InGoal g e = absurd (omega (arith, g.1, few))
      stage Finished g e = absurd (omega (arith, g.1, few))

  pub advance_goal :
      {r : Cursor} → Passed t c nd ch af open_goal → r ≡ mark_cursor c InGoal c.opened (c.stamp + 1)
      → Advanced t c open_goal nd ch af es mk r nd ch af es (set mk c.marked c.at)
  unfolding advance
  advance_goal k f =
      rw f
      (record {
        valid = mark_valid v (unfold width in k.uncut) InGoal c.opened (c.stamp + 1) (stage c.place v.stage k.placed) (omega arith) (omega (arith, v.blocks));
        moved = unfold mark_cursor in omega arith;
        tracks = λ s h.
            mark_tracks h InGoal in_goal c.opened (c.stamp + 1) (closed s.place s.moves s.items) [] (unfold place_of in refl) (not_first in_goal (inr (inl refl)))
            (goal_opens (length (closed s.place s.moves s.items)) h.closes)
            (goal_closes (closed s.place s.moves s.items) h.closes)
            (stamped_new h.needed) (stamped_new h.changed) (stamped_new h.affected)
            (goal_edges (closed s.place s.moves s.items) h.edges)
            (λ x. refl)
            (mark_room open_goal v k.placed);
      })
    where
      goal_opens : (n : ℕ) → c.opened ≡ n → c.opened ≡ opened in_goal n
      goal_opens n e = unfold opened in e

      goal_closes : (ms : List Block) → c.opened ≡ length ms → c.opened ≡ length (closed in_goal ms [])
      goal_closes ms e = unfold closed in e

      goal_edges : (ms : List Block) → Drawn ms es → Drawn (closed in_goal ms []) es
      goal_edges ms d = unfold closed in d

      all_opened : c.moves ≤ c.opened
      all_opened = ltb-false c.opened c.moves (unfold miscounted in k.counted)

      stage : (p : code.Place) → Stage p c.opened c.moves c.marked → in_place (place_of p) open_goal ≡ true → Stage InGoal c.opened c.moves (c.marked + 1)
      stage Start g e = (omega (arith, g.0), omega (arith, g.1, all_opened))
      stage Preamble g e = (omega (arith, g.0), omega (arith, g.1, all_opened))
      stage InMove g e = (omega (arith, g.0), omega (arith, g.1, all_opened))
      stage InGoal g e = impossible (unfold in_place place_of in e)
      stage Finished g e = impossible (unfold in_place place_of in e)

  pub advance_end :
      {r : Cursor} → Passed t c nd ch af end_table → r ≡ mark_cursor c Finished c.opened c.stamp
      → Advanced t c end_table nd ch af es mk r nd ch af es (set mk c.marked c.at)
  unfolding advance
  advance_end k f =
      rw f
      (record {
        valid = mark_valid v (unfold width in k.uncut) Finished c.opened c.stamp (stage c.place (in_goal_lem c.place k.placed) v.stage) v.numbered (omega (arith, v.blocks));
        moved = unfold mark_cursor in omega arith;
        tracks = λ s h. ends s h (sym h.place ∙ ap place_of (in_goal_lem c.place k.placed) ∙ (unfold place_of in refl));
      })
    where
      stage : (p : code.Place) → p ≡ InGoal → Stage p c.opened c.moves c.marked → Stage Finished c.opened c.moves (c.marked + 1)
      stage p e g =
          let a : Stage InGoal c.opened c.moves c.marked = subst (λ (x : code.Place). Stage x c.opened c.moves c.marked) e g in
          (omega (arith, a.0), a.1)

      ends : (s : Seen) (h : Tracks t c nd ch af es mk s) → s.place ≡ in_goal → Tracks t (mark_cursor c Finished c.opened c.stamp) nd ch af es (set mk c.marked c.at) (with_mark s finished s.moves s.items)
      ends s h e =
          mark_tracks h Finished finished c.opened c.stamp s.moves s.items (unfold place_of in refl) (not_first finished (inr (inr refl)))
          (h.opens ∙ ap (λ (x : Place). opened x (length s.moves)) e ∙ (unfold opened in refl))
          (h.closes ∙ ap (λ (x : Place). length (closed x s.moves s.items)) e ∙ (unfold closed in refl))
          h.needed h.changed h.affected
          (unfold closed in (rw e at h.edges))
          (λ x. absurd (no_move finished (inr refl) x))
          (mark_room end_table v k.placed)

-- ---- the head

at_start : (f : task.Form) (p : code.Place) → in_place (place_of p) (head f) ≡ true → place_of p ≡ start
unfolding in_place place_of
at_start f Start h = refl
at_start f Preamble h = impossible h
at_start f InMove h = impossible h
at_start f InGoal h = impossible h
at_start f Finished h = impossible h

not_preamble : preamble ≡ start → ⊥
not_preamble e = let z : ◌≡◌ {A = ℕ} 0 1 = cc in omega arith

module _ {t : List ℕ} {c : Cursor} {nd ch af : List ℕ} {es : List Bool} {mk : List ℕ} (v : Valid t c) where
  head_tracks :
      (f : Form) (a b d : ℕ) (s : Seen) → a ≡ byte_after t s 1 → b ≡ byte_after t s 2 → d ≡ byte_after t s 3
      → s ≡ nothing_seen → Tracks t c nd ch af es mk s
      → Tracks t (head_cursor c f a b d) nd ch af es mk (with_head t s (form_of f))
  unfolding head_cursor with_head head_of place_of opened closed all any any_below kept
  head_tracks f a b d s ea eb ed e h =
      record {
        at = ap (λ (x : ℕ). x + width (head (form_of f))) h.at;
        place = refl;
        header = rw (← ea, ← eb, ← ed) refl;
        opens = refl;
        closes = refl;
        terms = refl;
        rising = λ x. sym (leb-zero x);
        sources = λ u. refl;
        active = λ x. absurd (no_move preamble (inl refl) x);
        needed = rw items at h.needed;
        changed = rw items at h.changed;
        affected = rw items at h.affected;
        edges = rw closing at h.edges;
        marked = refl;
        marks = marks_none (c.at + width (head (form_of f))) mk h.marks.size;
        begins = λ x. absurd (not_preamble x);
      }
    where
      items : s.items ≡ []
      items = rw e (unfold nothing_seen in refl)

      closing : closed s.place s.moves s.items ≡ []
      closing = rw e (unfold nothing_seen closed in refl)

  pub advance_head :
      (f : Form) (a b d : ℕ) {r : Cursor} → Passed t c nd ch af (head (form_of f))
      → a ≡ get_or t (c.at + 1) 0 → b ≡ get_or t (c.at + 2) 0 → d ≡ get_or t (c.at + 3) 0 → r ≡ head_cursor c f a b d
      → Advanced t c (head (form_of f)) nd ch af es mk r nd ch af es mk
  unfolding advance
  advance_head f a b d k ea eb ed g =
      rw g
      (record {
        valid =
            unfold head_cursor width in
            (record {
              inside = k.uncut;
              props = omega (arith, ranges.0);
              vars = omega (arith, ranges.1);
              moves = omega (arith, ranges.2);
              stage = (refl, omega arith);
              few = omega arith;
              behind = omega arith;
              sources = λ i l. absurd (omega arith);
              numbered = v.numbered;
              blocks = omega (arith, v.blocks);
            });
        moved = unfold head_cursor in omega (arith, width_positive (head (form_of f)));
        tracks = λ s h.
            head_tracks f a b d s (ea ∙ byte s h 1) (eb ∙ byte s h 2) (ed ∙ byte s h 3) (h.begins (sym h.place ∙ at_start (form_of f) c.place k.placed)) h;
      })
    where
      ranges : (get_or t (c.at + 1) 0 ≤ 120) × (get_or t (c.at + 2) 0 ≤ 32) × (get_or t (c.at + 3) 0 ≤ 64)
      ranges = head_range t c (form_of f) k.ranged

      byte : (s : Seen) → Tracks t c nd ch af es mk s → (i : ℕ) → get_or t (c.at + i) 0 ≡ byte_after t s i
      byte s h i = unfold byte_after in ap (λ (x : ℕ). get_or t (x + i) 0) h.at

-- no unknown command passes
pub advance_unknown : {X : Type 0} {t : List ℕ} {c : Cursor} {nd ch af : List ℕ} → Passed t c nd ch af unknown → X
unfolding in_place place_of
advance_unknown {X} {t} {c} k = go c.place k.placed
  where
    go : (p : code.Place) → in_place (place_of p) unknown ≡ true → X
    go Start h = impossible h
    go Preamble h = impossible h
    go InMove h = impossible h
    go InGoal h = impossible h
    go Finished h = impossible h

pub opened_most : {t : List ℕ} {c : Cursor} → Valid t c → c.opened ≤ 64
opened_most {t} {c} v = go c.place v.stage
  where
    go : (p : code.Place) → Stage p c.opened c.moves c.marked → c.opened ≤ 64
    go Start g = omega (arith, v.moves, g.1)
    go Preamble g = omega (arith, v.moves, g.1)
    go InMove g = omega (arith, v.moves, g.1)
    go InGoal g = omega (arith, v.moves, g.1)
    go Finished g = omega (arith, v.moves, g.1)
