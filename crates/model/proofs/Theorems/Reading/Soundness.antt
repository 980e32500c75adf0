-- What has been seen of a table is well formed after every command that passes its checks: ranges, rising terms, each thing
-- named once, as many moves as the head says before the goal, nothing but conditions in the goal. Assumes nothing.
use Rattle.std.specs.Prelude.{ℕ, ◌≤◌, ◌<◌, refl, List, [], ◌∷◌, ◌++◌, T, length}
use Rattle.std.proofs.Common.{arith, ap, subst}
use Rattle.std.proofs.Math.Option.{some}
use Rattle.std.proofs.Math.ListN.{length-append}
use Rattle.model.specs.Limits.{Limits}
use Rattle.model.specs.Task.{Form, Term, Item, Block}
use Rattle.model.specs.Command.{Command, head, open_move, open_goal, end_table, need_prop, add_prop, delete_prop, term, close_condition, close_effect, unknown, width, Place, start, preamble, in_move, in_goal, finished, in_place}
use Rattle.model.specs.Seen.{Head, Seen, nothing_seen, byte_after, closed, term_at, item_at, with_head, with_mark, with_term, with_item, advance}
use Rattle.model.specs.Reading.{Wanted, opened}
use Rattle.model.specs.Theorems.Reading.WellFormed.{All, TermOk, SumOk, BlockOk, GoalItem, ItemOk}
use Rattle.model.proofs.Theorems.Reading.Appending.{All-snoc, Rising-snoc, Once-snoc}
use Rattle.model.specs.Theorems.Reading.Commands.{Passes}
use Rattle.model.specs.Theorems.Reading.Checks.{InBlock, Between, ItemRead}
use Rattle.model.proofs.Theorems.Reading.Checks.{in_place_lem, head_read, need_read, add_read, delete_read, condition_read, effect_read, term_read, open_move_read, open_goal_read, end_table_read}
use Rattle.model.specs.Theorems.Reading.Soundness.{Sound, Stage}

no_items : (L : Limits) (f : Form) (props vars : ℕ) → BlockOk L f props vars []
no_items L f props vars = record { items = tt; once = tt }

no_terms : (L : Limits) (f : Form) (vars : ℕ) → SumOk L f vars []
no_terms L f vars = record { terms = tt; few = omega arith; rising = tt }

pub sound_start : (L : Limits) (w : Wanted) → Sound L w nothing_seen
unfolding nothing_seen
sound_start L w = record { stage = tt; moves = tt; items = no_items L _ 0 0; terms = no_terms L _ 0 }

-- ---- blocks open and close
-- 41 after the goal is refused, since all A moves stand before it
pub open_move_between : {L : Limits} {w : Wanted} {t : List ℕ} {s : Seen} → Sound L w s → Passes L w t s open_move → Between s.place
unfolding in_place opened
open_move_between {L} {w} {s} k h = go s.place (in_place_lem h) k.stage (open_move_read h).1
  where
    go : (p : Place) → T (in_place p open_move) → Stage L w p s.header s.moves s.items → opened p (length s.moves) < s.header.moves → Between p
    go start placed stage few = placed
    go preamble placed stage few = tt
    go in_move placed stage few = tt
    go in_goal placed stage few = omega (arith, stage.1)
    go finished placed stage few = placed

opens_move : (L : Limits) (w : Wanted) (p : Place) (h : Head) (ms : List Block) (b : Block) → Between p → Stage L w p h ms b → opened p (length ms) < h.moves → Stage L w in_move h (closed p ms b) []
unfolding opened closed
opens_move L w start h ms b between stage few = absurd between
opens_move L w preamble h ms b between stage few = (stage.0, omega (arith, ap length stage.1))
opens_move L w in_move h ms b between stage few = (stage.0, omega (arith, length-append ms (b ∷ [])))
opens_move L w in_goal h ms b between stage few = absurd between
opens_move L w finished h ms b between stage few = absurd between

opens_goal : (L : Limits) (w : Wanted) (p : Place) (h : Head) (ms : List Block) (b : Block) → Between p → Stage L w p h ms b → h.moves ≤ opened p (length ms) → Stage L w in_goal h (closed p ms b) []
unfolding opened closed
opens_goal L w start h ms b between stage all = absurd between
opens_goal L w preamble h ms b between stage all = (stage.0, omega (arith, ap length stage.1), tt)
opens_goal L w in_move h ms b between stage all = (stage.0, omega (arith, length-append ms (b ∷ [])), tt)
opens_goal L w in_goal h ms b between stage all = absurd between
opens_goal L w finished h ms b between stage all = absurd between

closed_ok : (P : Block → Type 0) (p : Place) (ms : List Block) (b : Block) → All P ms → P b → All P (closed p ms b)
unfolding closed
closed_ok P start ms b a q = a
closed_ok P preamble ms b a q = a
closed_ok P in_move ms b a q = All-snoc P ms b a q
closed_ok P in_goal ms b a q = a
closed_ok P finished ms b a q = a

-- ---- items and terms
stays : (L : Limits) (w : Wanted) (p : Place) (h : Head) (ms : List Block) (b : Block) (i : Item) → InBlock p i → Stage L w p h ms b → Stage L w p h ms (b ++ (i ∷ []))
stays L w start h ms b i here stage = tt
stays L w preamble h ms b i here stage = absurd here
stays L w in_move h ms b i here stage = stage
stays L w in_goal h ms b i here stage = (stage.0, stage.1, All-snoc GoalItem b i stage.2 here)
stays L w finished h ms b i here stage = absurd here

module _ {L : Limits} {w : Wanted} (s : Seen) where
  sound_item : (n : ℕ) {i : Item} → Sound L w s → ItemRead L s i → Sound L w (with_item s n (some i))
  unfolding with_item
  sound_item n {i} k r =
      record {
        stage = stays L w s.place s.header s.moves s.items i r.in_block k.stage;
        moves = k.moves;
        items =
            record {
              items =
                  All-snoc (ItemOk L s.header.form s.header.props s.header.vars) s.items i k.items.items r.ok;
              once = Once-snoc s.items i k.items.once r.fresh;
            };
        terms = no_terms L s.header.form s.header.vars;
      }

  sound_mark : (p : Place) (ms : List Block) (b : Block) → Stage L w p s.header ms b → All (BlockOk L s.header.form s.header.props s.header.vars) ms → BlockOk L s.header.form s.header.props s.header.vars b → Sound L w (with_mark s p ms b)
  unfolding with_mark
  sound_mark p ms b stage blocks block =
      record { stage = stage; moves = blocks; items = block; terms = no_terms L s.header.form s.header.vars }

  sound_term : {u : Term} → Sound L w s → TermOk L s.header.form s.header.vars u → All (λ (v : Term). v.var < u.var) s.terms → length s.terms < L.terms → Sound L w (with_term s u)
  unfolding with_term
  sound_term {u} k ok below few =
      record {
        stage = k.stage;
        moves = k.moves;
        items = k.items;
        terms =
            record {
              terms = All-snoc (TermOk L s.header.form s.header.vars) s.terms u k.terms.terms ok;
              few = omega (arith, length-append s.terms (u ∷ []));
              rising = Rising-snoc s.terms u k.terms.rising below;
            };
      }

  -- the next block opens: the block before it is one more closed move
  sound_opens : (p : Place) → Sound L w s → Stage L w p s.header (closed s.place s.moves s.items) [] → Sound L w (with_mark s p (closed s.place s.moves s.items) [])
  sound_opens p k stage =
      sound_mark p (closed s.place s.moves s.items) [] stage
      (closed_ok (BlockOk L s.header.form s.header.props s.header.vars) s.place s.moves s.items k.moves k.items)
      (no_items L s.header.form s.header.props s.header.vars)

module _ {L : Limits} {w : Wanted} {t : List ℕ} {s : Seen} where
  -- every command that passes its checks keeps what has been seen well formed
  pub sound_step : (c : Command) → Sound L w s → Passes L w t s c → Sound L w (advance t s c)
  unfolding advance with_head with_mark with_term item_at term_at
  sound_step (head f) k h =
      record {
        stage = (head_read f h, refl);
        moves = tt;
        items = no_items L f (byte_after t s 1) (byte_after t s 2);
        terms = no_terms L f (byte_after t s 2);
      }
  sound_step open_move k h =
      sound_opens s in_move k (opens_move L w s.place s.header s.moves s.items (open_move_between k h) k.stage (open_move_read h).1)
  sound_step open_goal k h =
      sound_opens s in_goal k (opens_goal L w s.place s.header s.moves s.items (open_goal_read h).2 k.stage (open_goal_read h).1)
  sound_step end_table k h =
      sound_mark s finished s.moves s.items
      (subst (λ (p : Place). Stage L w p s.header s.moves s.items) (end_table_read h).1 k.stage)
      k.moves k.items
  sound_step need_prop k h = sound_item s (width need_prop) k (need_read h)
  sound_step add_prop k h = sound_item s (width add_prop) k (add_read h)
  sound_step delete_prop k h = sound_item s (width delete_prop) k (delete_read h)
  sound_step term k h = let r = term_read h in sound_term s k r.0 r.1 r.2
  sound_step close_condition k h = sound_item s (width close_condition) k (condition_read k.terms h)
  sound_step close_effect k h = sound_item s (width close_effect) k (effect_read k.terms h)
  sound_step unknown k h = k
