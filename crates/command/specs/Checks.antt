-- Checks 3, 6 and 16 of one command over what the code keeps. Assumes nothing.
use Rattle.std.specs.Prelude.{ℕ, ◌≡◌, Bool, ◌&&◌, ◌||◌, not, ltb, leb}
use Rattle.std.proofs.Math.Path.{refl}
use Rattle.std.proofs.Math.Bool.{true, false}
use Rattle.model.specs.Command.{Command, head, open_move, open_goal, end_table, need_prop, add_prop, delete_prop, term, close_condition, close_effect, unknown, Place, start, preamble, in_move, in_goal, finished, order, in_place, after_term}
use Rattle.model.specs.Reading.{Wanted, head_wanted, checks16}

-- is the place one of those from the first to the last
unfoldable pub lies_in : Place → Place → Place → Bool
lies_in first last p = leb (order first) (order p) && leb (order p) (order last)

-- a command stands in the places from the first to the last, if it does at each of the five
pub stands_within :
    (first last : Place) (c : Command)
    → lies_in first last start ≡ in_place start c
    → lies_in first last preamble ≡ in_place preamble c
    → lies_in first last in_move ≡ in_place in_move c
    → lies_in first last in_goal ≡ in_place in_goal c
    → lies_in first last finished ≡ in_place finished c
    → (p : Place)
    → lies_in first last p ≡ in_place p c
stands_within f l k a b c d e start = a
stands_within f l k a b c d e preamble = b
stands_within f l k a b c d e in_move = c
stands_within f l k a b c d e in_goal = d
stands_within f l k a b c d e finished = e

-- check 3, with n terms open
unfoldable pub misplaced : Wanted → Place → ℕ → Command → Bool
misplaced w p n c = not (in_place p c) || not (head_wanted w c) || (ltb 0 n && not (after_term c))

-- check 6, with that many moves opened of so many
unfoldable pub miscounted : ℕ → ℕ → Command → Bool
miscounted moves opened (head f) = false
miscounted moves opened open_move = leb moves opened
miscounted moves opened open_goal = ltb opened moves
miscounted moves opened end_table = false
miscounted moves opened need_prop = false
miscounted moves opened add_prop = false
miscounted moves opened delete_prop = false
miscounted moves opened term = false
miscounted moves opened close_condition = false
miscounted moves opened close_effect = false
miscounted moves opened unknown = false

-- the four ways through check 3
module _ (w : Wanted) (p : Place) (n : ℕ) (c : Command) (a b f : Bool) (ea : a ≡ in_place p c) (eb : b ≡ head_wanted w c) (ef : f ≡ after_term c) where
  pub misplaced_place : a ≡ false → true ≡ misplaced w p n c
  unfolding misplaced
  misplaced_place h = rw (← ea, h) refl

  pub misplaced_head : a ≡ true → b ≡ false → true ≡ misplaced w p n c
  unfolding misplaced
  misplaced_head h k = rw (← ea, ← eb, h, k) refl

  pub misplaced_closed : a ≡ true → b ≡ true → n ≡ 0 → false ≡ misplaced w p n c
  unfolding misplaced
  misplaced_closed h k e = rw (← ea, ← eb, h, k, e) refl

  pub misplaced_open : a ≡ true → b ≡ true → ltb 0 n ≡ true → not f ≡ misplaced w p n c
  unfolding misplaced
  misplaced_open h k e = rw (← ea, ← eb, ← ef, h, k, e) refl

-- check 16, of the open block, which changes something or does not
unfoldable pub unfinished : Wanted → Place → Bool → Bool
unfinished w p active = checks16 w && lies_in in_move in_move p && not active

unfoldable pub closes_idle : Wanted → Place → Bool → Command → Bool
closes_idle w p active (head f) = false
closes_idle w p active open_move = unfinished w p active
closes_idle w p active open_goal = unfinished w p active
closes_idle w p active end_table = false
closes_idle w p active need_prop = false
closes_idle w p active add_prop = false
closes_idle w p active delete_prop = false
closes_idle w p active term = false
closes_idle w p active close_condition = false
closes_idle w p active close_effect = false
closes_idle w p active unknown = false
