-- What the cursor and the arrays say of what has been seen: each check of model's definitions is the code's check.
-- Assumes nothing.
use Rattle.std.specs.Prelude.{ℕ, ◌+◌, ◌*◌, ◌-◌, ◌≡◌, Bool, true, false, not, ◌&&◌, List, [], ◌∷◌, eqb, leb, ltb, length, get_or}
use Rattle.std.proofs.Math.Path.{refl, sym, ap, ap₂}
use Rattle.std.proofs.Common.{◌∙◌}
use Rattle.std.proofs.Math.Option.{Option}
use Rattle.model.specs.declared.Refusal.{Refusal}
use Rattle.model.specs.Limits.{Limits, paper}
use Rattle.model.specs.Lists.{all, any, any_below}
use Rattle.model.specs.Task.{Term, Block, kept, active}
use Rattle.model.specs.Command.{Command, head, open_move, open_goal, end_table, need_prop, add_prop, delete_prop, term, close_condition, close_effect, unknown, width, Place, start, preamble, in_move, in_goal, finished, order}
use Rattle.model.specs.Seen.{Head, Seen, nothing_seen, byte_after, number_after, item_at, closed}
use Rattle.model.specs.Reading.{Wanted, first_wrong, operands, leaves_open, wrong3, wrong2, opened, wrong6, checks16, idle, wrong16, named_again, wrong5, refused_at, refused_operand, first_refusal, refusal}
use Rattle.cursor.specs.declared.Cursor.{Cursor}
use Rattle.command.specs.Names.{form_of, place_of}
use Rattle.command.specs.Checks.{lies_in, misplaced, miscounted, unfinished, closes_idle}
use Rattle.operand.specs.Ranges.{wrong_operand, view_at}
use Rattle.cursor.specs.State.{repeated, wrong_at, refused_offset, in_order, cursor_refusal}
use Rattle.cursor.proofs.Passing.{operands_refused}
use Rattle.advance.specs.Stamps.{needs, changes, affects, Stamped, needs_clash, changes_add, changes_delete, affects_effect}
use Rattle.advance.specs.Edges.{Drawn, source_is}
use Rattle.advance.specs.Marks.{Marks}

unfoldable pub head_of : Cursor → Head
head_of c = record { form = form_of c.form; props = c.props; vars = c.vars; moves = c.moves }

-- where the open terms begin
abbrev pub open_from : Cursor → ℕ
open_from c = c.at - 4 * c.terms

pub record Tracks (t : List ℕ) (c : Cursor) (nd ch af : List ℕ) (es : List Bool) (mk : List ℕ) (s : Seen) : Type 0 where
  pub at : c.at ≡ s.at
  pub place : place_of c.place ≡ s.place
  pub header : head_of c ≡ s.header
  pub opens : c.opened ≡ opened s.place (length s.moves)
  pub closes : c.opened ≡ length (closed s.place s.moves s.items)
  pub terms : c.terms ≡ length s.terms
  pub rising : (v : ℕ) → all (λ (u : Term). ltb u.var v) s.terms ≡ leb c.next v
  pub sources : (u : ℕ) → any (λ (x : Term). eqb x.var u) (kept s.terms) ≡ any_below (source_is t (open_from c) u) c.terms
  pub active : s.place ≡ in_move → c.active ≡ active s.items
  pub needed : Stamped needs 120 c.stamp s.items nd
  pub changed : Stamped changes 120 c.stamp s.items ch
  pub affected : Stamped affects 32 c.stamp s.items af
  pub edges : Drawn (closed s.place s.moves s.items) es
  pub marked : c.marked ≡ length s.marks
  pub marks : Marks c.at s.marks mk
  pub begins : s.place ≡ start → s ≡ nothing_seen

-- operands depend on the offset and the head alone
operands_view : (L : Limits) (t : List ℕ) (s : Seen) (k : Command) → operands L t s k ≡ operands L t (view_at s.at s.header.form s.header.props s.header.vars) k
unfolding operands view_at byte_after number_after
operands_view L t s (head f) = refl
operands_view L t s open_move = refl
operands_view L t s open_goal = refl
operands_view L t s end_table = refl
operands_view L t s need_prop = refl
operands_view L t s add_prop = refl
operands_view L t s delete_prop = refl
operands_view L t s term = refl
operands_view L t s close_condition = refl
operands_view L t s close_effect = refl
operands_view L t s unknown = refl

together :
    (p q : ℕ) (a a' b b' d d' i i' : Bool) (x x' : Option Refusal) (e e' : Bool)
    → p ≡ q → a ≡ a' → b ≡ b' → d ≡ d' → i ≡ i' → x ≡ x' → e ≡ e'
    → first_refusal (refused_at 3 a p ∷ refused_at 2 b p ∷ refused_at 6 d p ∷ refused_at 16 i p ∷ x ∷ refused_at 5 e p ∷ [])
    ≡ first_refusal (refused_at 3 a' q ∷ refused_at 2 b' q ∷ refused_at 6 d' q ∷ refused_at 16 i' q ∷ x' ∷ refused_at 5 e' q ∷ [])
together p q a a' b b' d d' i i' x x' e e' h1 h2 h3 h4 h5 h6 h7 = rw (h1, h2, h3, h4, h5, h6, h7) refl

-- check 16, by the place
elsewhere : (c x : Bool) → (c && false && x) ≡ (c && false)
elsewhere true x = refl
elsewhere false x = refl

same_idle : (w : Wanted) (p : Place) (x : Bool) (b : Block) → (p ≡ in_move → x ≡ active b) → unfinished w p x ≡ (checks16 w && idle p b)
unfolding unfinished lies_in order idle
same_idle w start x b e = elsewhere (checks16 w) (not x)
same_idle w preamble x b e = elsewhere (checks16 w) (not x)
same_idle w in_move x b e = ap (λ (a : Bool). checks16 w && true && not a) (e refl) ∙ here (checks16 w)
  where
    here : (c : Bool) → (c && true && not (active b)) ≡ (c && not (active b))
    here true = refl
    here false = refl
same_idle w in_goal x b e = elsewhere (checks16 w) (not x)
same_idle w finished x b e = elsewhere (checks16 w) (not x)

module _ {t : List ℕ} {c : Cursor} {needed changed affected : List ℕ} {edges : List Bool} {marks : List ℕ} {s : Seen}
    (h : Tracks t c needed changed affected edges marks s) where
  same_3 : (w : Wanted) (k : Command) → misplaced w (place_of c.place) c.terms k ≡ wrong3 w s k
  unfolding misplaced wrong3 leaves_open
  same_3 w k = rw (h.place, h.terms) refl

  same_2 : (k : Command) → ltb (length t) (c.at + width k) ≡ wrong2 t s k
  unfolding wrong2
  same_2 k = rw h.at refl

  moves_are : c.moves ≡ s.header.moves
  unfolding head_of
  moves_are = ap (λ (x : Head). x.moves) h.header

  same_6 : (k : Command) → miscounted c.moves c.opened k ≡ wrong6 s k
  unfolding miscounted wrong6
  same_6 (head f) = refl
  same_6 open_move = rw (moves_are, h.opens) refl
  same_6 open_goal = rw (moves_are, h.opens) refl
  same_6 end_table = refl
  same_6 need_prop = refl
  same_6 add_prop = refl
  same_6 delete_prop = refl
  same_6 term = refl
  same_6 close_condition = refl
  same_6 close_effect = refl
  same_6 unknown = refl

  same_16 : (w : Wanted) (k : Command) → closes_idle w (place_of c.place) c.active k ≡ wrong16 w s k
  unfolding closes_idle wrong16
  same_16 w (head f) = refl
  same_16 w open_move = rw h.place (same_idle w s.place c.active s.items h.active)
  same_16 w open_goal = rw h.place (same_idle w s.place c.active s.items h.active)
  same_16 w end_table = refl
  same_16 w need_prop = refl
  same_16 w add_prop = refl
  same_16 w delete_prop = refl
  same_16 w term = refl
  same_16 w close_condition = refl
  same_16 w close_effect = refl
  same_16 w unknown = refl

  -- the operands as the cursor sees them
  same_operands : (k : Command) → operands paper t (view_at c.at (form_of c.form) c.props c.vars) k ≡ operands paper t s k
  unfolding head_of
  same_operands k =
      ap₂ (λ (p : ℕ) (x : Head). operands paper t (view_at p x.form x.props x.vars) k) h.at h.header ∙ sym (operands_view paper t s k)

  same_4 : (k : Command) → refused_offset c.at (wrong_at t c k) ≡ refused_operand s.at (first_wrong (operands paper t s k))
  unfolding wrong_at wrong_operand
  same_4 k =
      operands_refused c.at paper t (view_at c.at (form_of c.form) c.props c.vars) k
      ∙ ap₂ (λ p x. refused_operand p (first_wrong x)) h.at (same_operands k)

  same_5 : (k : Command) → repeated t c needed changed affected k ≡ wrong5 paper t s k
  unfolding repeated wrong5 named_again item_at byte_after
  same_5 (head f) = refl
  same_5 open_move = refl
  same_5 open_goal = refl
  same_5 end_table = refl
  same_5 need_prop = rw (← h.at) (h.needed.same (get_or t (c.at + 1) 0) ∙ needs_clash (get_or t (c.at + 1) 0) s.items)
  same_5 add_prop = rw (← h.at) (h.changed.same (get_or t (c.at + 1) 0) ∙ changes_add (get_or t (c.at + 1) 0) s.items)
  same_5 delete_prop = rw (← h.at) (h.changed.same (get_or t (c.at + 1) 0) ∙ changes_delete (get_or t (c.at + 1) 0) s.items)
  same_5 term = rw (← h.at, h.rising (get_or t (c.at + 1) 0), ← h.terms) refl
  same_5 close_condition = refl
  same_5 close_effect = rw (← h.at) (h.affected.same (get_or t (c.at + 2) 0) ∙ affects_effect _ s.items)
  same_5 unknown = refl

  -- the code's checks are model's
  pub tracks_refusal : (w : Wanted) (k : Command) → cursor_refusal w t c needed changed affected k ≡ refusal paper w t s k
  unfolding cursor_refusal in_order refusal
  tracks_refusal w k = together _ _ _ _ _ _ _ _ _ _ _ _ _ _ h.at (same_3 w k) (same_2 k) (same_6 k) (same_16 w k) (same_4 k) (same_5 k)
