-- What the checks of a command say once they are passed (document 01, "Where a call turns back"): where the command stands, its
-- operands' ranges, and that it names nothing again. Assumes nothing.
use Rattle.std.specs.Prelude.{ℕ, suc, ◌≤◌, ◌<◌, ◌≡◌, Bool, true, ◌&&◌, ◌||◌, nat_abs, length}
use Rattle.std.proofs.Common.{arith, subst, lt→ltb}
use Rattle.std.proofs.Math.Path.{refl}
use Rattle.std.proofs.Math.Bool.{false, not}
use mathlib.Core.List.{List, [], ◌∷◌}
use Rattle.std.proofs.Math.Dec.{T, ltb, leb, ltb→lt, leb→le, nltb→le, nleb→lt}
use Rattle.model.specs.Limits.{Limits, base_in_range}
use Rattle.model.specs.Lists.{all, any}
use Rattle.model.specs.Task.{Form, Term, Item, need, add, delete, condition, Condition, effect, Block, clashes}
use Rattle.model.specs.Command.{Command, head, open_move, open_goal, end_table, need_prop, add_prop, delete_prop, term, close_condition, close_effect, Place, start, preamble, in_move, in_goal, finished, in_place, after_term}
use Rattle.model.specs.Seen.{Seen, byte_after, number_after, term_at, item_at, with_head}
use Rattle.model.specs.Reading.{Wanted, head_wanted, leaves_open, wrong3, wrong6, opened, operands, named_again, wrong5}
use Rattle.model.specs.Theorems.Reading.WellFormed.{All, TermOk, SumOk, ItemOk, GoalItem}
use Rattle.model.proofs.Theorems.Laws.Booleans.{T_true}
use Rattle.model.proofs.Theorems.Laws.Searching.{all_all, All-map}
use Rattle.model.proofs.Theorems.Reading.Ranges.{vars_in_range_lem, weight_in_range_lem, comparison_in_range_lem, kind_in_range_lem, bound_in_range_lem}
use Rattle.model.specs.Theorems.Reading.Commands.{Passes}
use Rattle.model.proofs.Theorems.Reading.Commands.{none_finished}
use Rattle.model.specs.Theorems.Reading.Checks.{Between, HeadOk, InBlock, ItemRead, condition_at, effect_at}

-- ---- tests that fail

neither_left : (a b : Bool) → T (not (a || b)) → T (not a)
neither_left true b h = h
neither_left false b h = tt

neither_right : (a b : Bool) → T (not (a || b)) → T (not b)
neither_right true b h = absurd h
neither_right false b h = h

not_not : (b : Bool) → T (not (not b)) → T b
not_not true h = tt
not_not false h = h

-- ---- 3: the command's place, the head that the call wants, no terms left open
module _ {L : Limits} {w : Wanted} {t : List ℕ} {s : Seen} {c : Command} where
  pub in_place_lem : Passes L w t s c → T (in_place s.place c)
  unfolding wrong3
  in_place_lem h =
      let a = in_place s.place c in
      let b = head_wanted w c in
      not_not a (neither_left (not a) (not b) (neither_left (not a || not b) (leaves_open s c) h.placed))

  pub head_wanted_lem : Passes L w t s c → T (head_wanted w c)
  unfolding wrong3
  head_wanted_lem h =
      let a = in_place s.place c in
      let b = head_wanted w c in
      not_not b (neither_right (not a) (not b) (neither_left (not a || not b) (leaves_open s c) h.placed))

  pub terms_closed : after_term c ≡ false → Passes L w t s c → s.terms ≡ []
  unfolding wrong3 leaves_open
  terms_closed e h = go s.terms (after_term c) e (neither_right (not (in_place s.place c) || not (head_wanted w c)) (leaves_open s c) h.placed)
    where
      go : (ts : List Term) (a : Bool) → a ≡ false → T (not (ltb 0 (length ts) && not a)) → ts ≡ []
      go [] a k n = refl
      go (u ∷ ts) a k n =
          absurd (rw (k, T_true (ltb 0 (suc (length ts))) (lt→ltb 0 (suc (length ts)) (omega arith))) at n)

module _ {L : Limits} {w : Wanted} {t : List ℕ} {s : Seen} where
  pub head_read : (f : Form) → Passes L w t s (head f) → HeadOk L w (with_head t s f).header
  unfolding operands with_head
  head_read f h =
      record {
        wanted = head_wanted_lem h;
        props = leb→le (byte_after t s 1) L.props h.ranged.0;
        vars = vars_in_range_lem L f (byte_after t s 2) h.ranged.1.0;
        moves = leb→le (byte_after t s 3) L.moves h.ranged.1.1.0;
      }

in_block_lem : (c : Command) (i : Item) → in_place start c ≡ false → in_place preamble c ≡ false → (T (in_place in_goal c) → GoalItem i) → (p : Place) → T (in_place p c) → InBlock p i
in_block_lem c i a b g start h = subst T a h
in_block_lem c i a b g preamble h = subst T b h
in_block_lem c i a b g in_move h = tt
in_block_lem c i a b g in_goal h = g h
in_block_lem c i a b g finished h = subst T (none_finished c) h

-- a condition names nothing that could be named again
condition_fresh : (c : Condition) (b : Block) → T (not (any (λ j. clashes j (condition c)) b))
unfolding any clashes
condition_fresh c [] = tt
condition_fresh c (need p ∷ b) = condition_fresh c b
condition_fresh c (add p ∷ b) = condition_fresh c b
condition_fresh c (delete p ∷ b) = condition_fresh c b
condition_fresh c (condition d ∷ b) = condition_fresh c b
condition_fresh c (effect e ∷ b) = condition_fresh c b

module _ {L : Limits} {w : Wanted} {t : List ℕ} {s : Seen} where
  item_read : (c : Command) (i : Item) → in_place start c ≡ false → in_place preamble c ≡ false → (T (in_place in_goal c) → GoalItem i) → Passes L w t s c → ItemOk L s.header.form s.header.props s.header.vars i → T (not (any (λ j. clashes j i) s.items)) → ItemRead L s i
  item_read c i a b g h ok fresh =
      record { in_block = in_block_lem c i a b g s.place (in_place_lem h); ok = ok; fresh = fresh }

  -- 50, 2B and 2D: a proposition below P; 2B and 2D stand in a move
  pub need_read : Passes L w t s need_prop → ItemRead L s (need (byte_after t s 1))
  unfolding operands wrong5 named_again item_at in_place after_term
  need_read h =
      item_read need_prop (need (byte_after t s 1)) refl refl (λ g. g) h
      (ltb→lt (byte_after t s 1) s.header.props h.ranged.0) h.fresh

  pub add_read : Passes L w t s add_prop → ItemRead L s (add (byte_after t s 1))
  unfolding operands wrong5 named_again item_at in_place after_term
  add_read h =
      item_read add_prop (add (byte_after t s 1)) refl refl (λ g. g) h
      (ltb→lt (byte_after t s 1) s.header.props h.ranged.0) h.fresh

  pub delete_read : Passes L w t s delete_prop → ItemRead L s (delete (byte_after t s 1))
  unfolding operands wrong5 named_again item_at in_place after_term
  delete_read h =
      item_read delete_prop (delete (byte_after t s 1)) refl refl (λ g. g) h
      (ltb→lt (byte_after t s 1) s.header.props h.ranged.0) h.fresh

  -- 43 and 46 close terms that are a sum in range
  pub condition_read : SumOk L s.header.form s.header.vars s.terms → Passes L w t s close_condition → ItemRead L s (condition (condition_at t s))
  unfolding operands in_place
  condition_read sum h =
      item_read close_condition (condition (condition_at t s)) refl refl (λ g. g) h
      (record {
        sum = sum;
        comparison = (comparison_in_range_lem s.header.form (byte_after t s 1) h.ranged.0).0;
        bound = bound_in_range_lem L s.header.form (number_after 4 t s 2) h.ranged.1.0;
      })
      (condition_fresh (condition_at t s) s.items)

  pub effect_read : SumOk L s.header.form s.header.vars s.terms → Passes L w t s close_effect → ItemRead L s (effect (effect_at t s))
  unfolding operands wrong5 named_again item_at in_place after_term base_in_range
  effect_read sum h =
      item_read close_effect (effect (effect_at t s)) refl refl (λ g. g) h
      (record {
        var = ltb→lt (byte_after t s 2) s.header.vars h.ranged.1.0;
        kind = (kind_in_range_lem s.header.form (byte_after t s 1) h.ranged.0).0;
        sum = sum;
        base = leb→le (nat_abs (number_after 4 t s 3)) L.constant h.ranged.1.1.0;
      })
      h.fresh

  -- 57: a term in range, above the terms before it, and one of at most eight
  pub term_read : Passes L w t s term → TermOk L s.header.form s.header.vars (term_at t s) × All (λ (u : Term). u.var < byte_after t s 1) s.terms × (length s.terms < L.terms)
  unfolding operands wrong5 term_at
  term_read h =
      let a = all (λ (u : Term). ltb u.var (byte_after t s 1)) s.terms in
      let b = leb L.terms (length s.terms) in (
        record {
          var = ltb→lt (byte_after t s 1) s.header.vars h.ranged.0;
          weight = weight_in_range_lem L s.header.form (number_after 2 t s 2) h.ranged.1.0;
        },
        All-map s.terms (λ u k. ltb→lt u.var (byte_after t s 1) k)
            (all_all (λ (u : Term). ltb u.var (byte_after t s 1)) s.terms (not_not a (neither_left (not a) b h.fresh))),
        nleb→lt L.terms (length s.terms) (neither_right (not a) b h.fresh),
      )

  -- 41, 47 and 45 follow no open term; 41 is one of the A moves, 47 follows all of them, 45 ends the goal
  pub open_move_read : Passes L w t s open_move → (s.terms ≡ []) × (opened s.place (length s.moves) < s.header.moves)
  unfolding wrong6 after_term
  open_move_read h = (terms_closed refl h, nleb→lt s.header.moves (opened s.place (length s.moves)) h.counted)

  pub open_goal_read : Passes L w t s open_goal → (s.terms ≡ []) × (s.header.moves ≤ opened s.place (length s.moves)) × Between s.place
  unfolding wrong6 after_term in_place
  open_goal_read h =
      (terms_closed refl h, nltb→le (opened s.place (length s.moves)) s.header.moves h.counted, go s.place (in_place_lem h))
    where
      go : (p : Place) → T (in_place p open_goal) → Between p
      go start k = k
      go preamble k = k
      go in_move k = k
      go in_goal k = k
      go finished k = k

  pub end_table_read : Passes L w t s end_table → (s.terms ≡ []) × (s.place ≡ in_goal)
  unfolding in_place after_term
  end_table_read h = (terms_closed refl h, go s.place (in_place_lem h))
    where
      go : (p : Place) → T (in_place p end_table) → p ≡ in_goal
      go start k = absurd k
      go preamble k = absurd k
      go in_move k = absurd k
      go in_goal k = refl
      go finished k = absurd k
