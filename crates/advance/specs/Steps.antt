-- One command further: the cursor and the arrays behind a command that passed its checks say of what has then been seen what they
-- said before. What the laws of all commands share, and of an item. Assumes nothing.
use Rattle.std.specs.Prelude.{ℕ, ◌+◌, ◌≤◌, ◌<◌, ◌≡◌, refl, Bool, true, false, ◌||◌, List, [], ◌∷◌, ◌++◌, T, length}
use Rattle.std.proofs.Common.{arith, ◌∙◌, subst, length-append}
use Rattle.std.proofs.Math.Path.{sym, ap}
use Rattle.std.proofs.Math.Option.{some}
use Rattle.std.proofs.Math.Dec.{leb-zero}
use Rattle.model.specs.Lists.{all, any, any_below}
use Rattle.model.specs.Task.{kept, Item, Block, active}
use Rattle.model.specs.Task as task
use Rattle.model.specs.Circle.{item_edge}
use Rattle.model.specs.Command.{Command, Place, start, preamble, in_move, in_goal, finished, in_place}
use Rattle.model.specs.Seen.{Seen, closed, with_item, advance}
use Rattle.cursor.specs.declared.Cursor.{Cursor}
use Rattle.command.specs.declared.Place as code
use Rattle.command.specs.declared.Place.TheVariants.{Start, Preamble, InMove, InGoal, Finished}
use Rattle.command.specs.Names.{place_of}
use Rattle.cursor.specs.State.{item_cursor, Valid}
use Rattle.advance.specs.Stamps.{needs, changes, affects, Stamped, any_snoc}
use Rattle.advance.specs.Edges.{Drawn, closed_other}
use Rattle.advance.specs.Marks.{marks_later}
use Rattle.advance.specs.Tracks.{head_of, Tracks}

pub record Advanced (t : List ℕ) (c : Cursor) (k : Command) (nd ch af : List ℕ) (es : List Bool) (mk : List ℕ) (c' : Cursor) (nd' ch' af' : List ℕ) (es' : List Bool) (mk' : List ℕ) : Type 0 where
  pub valid : Valid t c'
  pub moved : c.at < c'.at
  pub tracks : (s : Seen) → Tracks t c nd ch af es mk s → Tracks t c' nd' ch' af' es' mk' (advance t s k)

-- ---- places

-- a command that may not stand at offset 0 stands elsewhere
pub not_start : (k : Command) → in_place start k ≡ false → (p : code.Place) → in_place (place_of p) k ≡ true → place_of p ≡ start → ⊥
unfolding in_place place_of
not_start k e Start h f = let z : ◌≡◌ {A = Bool} true false = sym h ∙ e in absurd (subst T z tt)
not_start k e Preamble h f = let z : ◌≡◌ {A = ℕ} 0 1 = cc in omega arith
not_start k e InMove h f = let z : ◌≡◌ {A = ℕ} 0 1 = cc in omega arith
not_start k e InGoal h f = let z : ◌≡◌ {A = ℕ} 0 1 = cc in omega arith
not_start k e Finished h f = let z : ◌≡◌ {A = ℕ} 0 1 = cc in omega arith

pub impossible : {X : Type 0} → false ≡ true → X
impossible e = absurd (subst T (sym e) tt)

pub length_closed : (p : Place) (ms : List Block) (b d : Block) → length (closed p ms b) ≡ length (closed p ms d)
unfolding closed
length_closed start ms b d = refl
length_closed preamble ms b d = refl
length_closed in_move ms b d = length-append ms (b ∷ []) ∙ sym (length-append ms (d ∷ []))
length_closed in_goal ms b d = refl
length_closed finished ms b d = refl

-- ---- items

-- one item more
active_snoc : (b : Block) (i : Item) → active (b ++ (i ∷ [])) ≡ (active b || task.changes i)
unfolding active
active_snoc b i = any_snoc task.changes b i

module _ {t : List ℕ} {c : Cursor} (v : Valid t c) (n : ℕ) (room : c.at + n ≤ length t) (wide : 0 < n) (active : Bool) where
  pub item_valid : Valid t (item_cursor c n active)
  unfolding item_cursor
  item_valid =
      record {
        inside = room;
        props = v.props;
        vars = v.vars;
        moves = v.moves;
        stage = v.stage;
        few = omega arith;
        behind = omega arith;
        sources = λ i l. absurd (omega arith);
        numbered = v.numbered;
        blocks = omega (arith, v.blocks);
      }

  pub item_moved : c.at < (item_cursor c n active).at
  unfolding item_cursor
  item_moved = omega (arith, wide)

module _ {t : List ℕ} {c : Cursor} {nd ch af : List ℕ} {es : List Bool} {mk : List ℕ} {s : Seen} (h : Tracks t c nd ch af es mk s) where
  -- an item, with what it names and draws entered
  pub item_tracks :
      (n : ℕ) (a : Bool) (i : Item) {nd' ch' af' : List ℕ} {es' : List Bool}
      → (s.place ≡ start → ⊥)
      → a ≡ (c.active || task.changes i)
      → Stamped needs 120 c.stamp (s.items ++ (i ∷ [])) nd'
      → Stamped changes 120 c.stamp (s.items ++ (i ∷ [])) ch'
      → Stamped affects 32 c.stamp (s.items ++ (i ∷ [])) af'
      → Drawn (closed s.place s.moves (s.items ++ (i ∷ []))) es'
      → Tracks t (item_cursor c n a) nd' ch' af' es' mk (with_item s n (some i))
  unfolding item_cursor with_item head_of all any any_below kept
  item_tracks n x i elsewhere does a b d e =
      record {
        at = ap (λ (x : ℕ). x + n) h.at;
        place = h.place;
        header = h.header;
        opens = h.opens;
        closes = h.closes ∙ length_closed s.place s.moves s.items (s.items ++ (i ∷ []));
        terms = refl;
        rising = λ x. sym (leb-zero x);
        sources = λ u. refl;
        active = λ f. does ∙ ap (λ (y : Bool). y || task.changes i) (h.active f) ∙ sym (active_snoc s.items i);
        needed = a;
        changed = b;
        affected = d;
        edges = e;
        marked = h.marked;
        marks = marks_later h.marks (c.at + n) (omega arith);
        begins = λ f. absurd (elsewhere f);
      }

  -- an item without an edge
  pub no_edge : (i : Item) → ((u w : ℕ) → item_edge u w i ≡ false) → Drawn (closed s.place s.moves (s.items ++ (i ∷ []))) es
  no_edge i k =
      record {
        size = h.edges.size;
        same = λ u w a b. h.edges.same u w a b ∙ sym (closed_other (item_edge u w) s.place s.moves s.items i (k u w));
      }

  pub elsewhere : (k : Command) → in_place start k ≡ false → in_place (place_of c.place) k ≡ true → s.place ≡ start → ⊥
  elsewhere k e p f = not_start k e c.place p (h.place ∙ f)
