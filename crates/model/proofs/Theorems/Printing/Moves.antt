-- Printed moves, the goal and the end of a table read back: the reading passes each 41, 47 and 45 with its block, counts the
-- moves and keeps their offsets. Assumes nothing.
use Prim.Native.Nat.{ℕ, suc, ◌+◌, ◌<◌}
use Rattle.std.proofs.Math.Nat.{add-zero}
use native.Mathlib.Omega.{arith}
use Rattle.std.specs.Prelude.{◌≡◌, true, not, T, leb, ltb}
use Rattle.std.proofs.Math.Path.{refl}
use Rattle.std.proofs.Common.{◌∙◌}
use mathlib.Core.List.{List, [], ◌∷◌, ◌++◌, append-nil, append_assoc}
use Rattle.std.proofs.Math.Dec.{not_T, ltb→lt, leb→le}
use Rattle.std.proofs.Math.ListN.{length, length-append}
use Rattle.model.specs.Limits.{Limits}
use Rattle.model.specs.Task.{Item, need, add, delete, condition, effect, Block}
use Rattle.model.specs.Command.{Command, term, open_move, open_goal, end_table, code_of, width, items_bytes, moves_bytes, Place, preamble, in_move, in_goal, finished, in_place}
use Rattle.model.specs.Seen.{Head, Seen, closed, with_mark, advance}
use Rattle.model.specs.Reading.{Verdict, Wanted, head_wanted, leaves_open, wrong6, wrong5, operands, opened, table_of, verdict_of, at_end, checks16, idle, wrong16}
use Rattle.model.specs.Theorems.Reading.WellFormed.{All, BlockOk, GoalItem}
use Rattle.model.specs.Theorems.Reading.Active.{Lively}
use Rattle.model.proofs.Theorems.Reading.Active.{lively_passes, none_closes}
use Rattle.model.proofs.Theorems.Laws.Searching.{All-map}
use Rattle.model.specs.Theorems.Reading.Commands.{Passes}
use Rattle.model.proofs.Theorems.Reading.Commands.{read_command_end}
use Rattle.model.proofs.Theorems.Reading.Reads.{verdict_from, verdict_done}
use Rattle.model.specs.Theorems.Reading.Marks.{starts}
use Rattle.model.specs.Theorems.Printing.Passing.{Left, SmallLimits}
use Rattle.model.proofs.Theorems.Printing.Passing.{left_length, left_code, left_after, well_placed, passed}
use Rattle.model.specs.Theorems.Printing.Items.{item_command}
use Rattle.model.specs.Theorems.Printing.Blocks.{within, Apart}
use Rattle.model.proofs.Theorems.Printing.Blocks.{before_none, read_items}
use Rattle.model.specs.Theorems.Printing.Moves.{Gap}

move_takes : (i : Item) → in_place in_move (item_command i) ≡ true
unfolding item_command in_place
move_takes (need p) = refl
move_takes (add p) = refl
move_takes (delete p) = refl
move_takes (condition c) = refl
move_takes (effect e) = refl

goal_takes : (i : Item) → GoalItem i → in_place in_goal (item_command i) ≡ true
unfolding item_command in_place
goal_takes (need p) ok = refl
goal_takes (add p) ok = absurd ok
goal_takes (delete p) ok = absurd ok
goal_takes (condition c) ok = refl
goal_takes (effect e) ok = absurd ok

pub gap_start : (w : Wanted) → Gap w preamble [] [] []
unfolding closed opened in_place idle
gap_start w = record { closes = refl; counts = refl; move_next = refl; goal_next = refl; lively = none_closes (checks16 w) }

gap_move : (w : Wanted) (ms : List Block) (b : Block) → Lively w b → Gap w in_move ms b (ms ++ (b ∷ []))
unfolding closed opened in_place
gap_move w ms b h =
    record { closes = refl; counts = omega (arith, length-append ms (b ∷ [])); move_next = refl; goal_next = refl; lively = lively_passes w b h }

-- 41, 47 and 45: no operands, and no term open before them
mark_passes :
    {L : Limits} {w : Wanted} {t : List ℕ} (s : Seen) (c : Command) (rest : List ℕ)
    → Left t s.at (code_of c ∷ rest)
    → s.terms ≡ []
    → width c ≡ 1
    → head_wanted w c ≡ true
    → operands L t s c ≡ []
    → T (not (wrong5 L t s c))
    → in_place s.place c ≡ true
    → T (not (wrong6 s c))
    → T (not (wrong16 w s c))
    → Passes L w t s c
unfolding leaves_open
mark_passes {w} s c rest here none_open one_byte wanted no-operands fresh place counted lively =
    record {
      code = left_code here;
      placed = well_placed w s c place wanted (rw none_open refl);
      uncut = omega (arith, left_length here);
      counted = counted;
      lively = lively;
      ranged = rw no-operands tt;
      fresh = fresh;
    }

module _ (L : Limits) (w : Wanted) (t : List ℕ) (small : SmallLimits L) (h : Head) where
  -- the verdict from a place and an offset on, with moves, marks and items seen and no term open
  abbrev from : Place → List Block → List ℕ → ℕ → Block → Verdict
  from p ms marks at b = verdict_from L w t (within p h ms marks at b [])

  abbrev Fits : Block → Type 0
  Fits m = BlockOk L h.form h.props h.vars m

  module _ (p : Place) (ms : List Block) (marks : List ℕ) (at : ℕ) (b : Block) (ds : List Block) (gap : Gap w p ms b ds) where
    s : Seen
    s = within p h ms marks at b []

    -- a command that opens a block at the place q, and the items of the block
    read_block :
        (c : Command) (q : Place) (m : Block) (rest : List ℕ)
        → Left t at (code_of c ∷ (items_bytes m ++ rest))
        → Passes L w t s c
        → advance t s c ≡ with_mark s q (closed p ms b) []
        → in_place q term ≡ true
        → All (λ i. in_place q (item_command i) ≡ true) m
        → Fits m
        → from p ms marks at b ≡ from q ds (marks ++ (at ∷ [])) (at + suc (length (items_bytes m))) m
    unfolding with_mark s
    read_block c q m rest here passes opens inside places ok =
        passed passes
        ∙ rw (opens, gap.closes, ← behind)
        (read_items L w t small q inside h ds (marks ++ (at ∷ [])) m (at + 1) [] rest
        (left_after (code_of c ∷ []) (items_bytes m ++ rest) here refl) places ok.items ok.once (before_none Apart m))
      where
        behind : at + 1 + length (items_bytes m) ≡ at + suc (length (items_bytes m))
        behind = omega arith

    read_move :
        (m : Block) (rest : List ℕ)
        → Left t at (code_of open_move ∷ (items_bytes m ++ rest))
        → Fits m
        → length ds < h.moves
        → from p ms marks at b ≡ from in_move ds (marks ++ (at ∷ [])) (at + suc (length (items_bytes m))) m
    unfolding s width head_wanted operands wrong5 wrong6 wrong16 in_place advance
    read_move m rest here ok room =
        read_block open_move in_move m rest here
        (mark_passes s open_move (items_bytes m ++ rest) here refl refl refl refl tt gap.move_next
        (rw gap.counts
        (not_T (leb h.moves (length ds)) (λ full. omega (arith, leb→le h.moves (length ds) full))))
        gap.lively)
        refl refl (All-map m (λ i x. move_takes i) ok.items) ok

    read_goal :
        (g : Block) (rest : List ℕ)
        → Left t at (code_of open_goal ∷ (items_bytes g ++ rest))
        → Fits g
        → All GoalItem g
        → length ds ≡ h.moves
        → from p ms marks at b ≡ from in_goal ds (marks ++ (at ∷ [])) (at + suc (length (items_bytes g))) g
    unfolding s width head_wanted operands wrong5 wrong6 wrong16 in_place advance
    read_goal g rest here ok items full =
        read_block open_goal in_goal g rest here
        (mark_passes s open_goal (items_bytes g ++ rest) here refl refl refl refl tt gap.goal_next
        (rw gap.counts
        (not_T (ltb (length ds) h.moves) (λ few. omega (arith, ltb→lt (length ds) h.moves few))))
        gap.lively)
        refl refl (All-map g goal_takes items) ok

  -- From where moves and the goal stand printed, the reading goes on behind them, with these blocks and their offsets seen.
  pub read_blocks :
      (bs : List Block) (p : Place) (ms : List Block) (marks : List ℕ) (at : ℕ) (b : Block) (ds : List Block) (g : Block)
      (rest : List ℕ)
      → Gap w p ms b ds
      → Left t at (moves_bytes bs ++ (code_of open_goal ∷ (items_bytes g ++ rest)))
      → All Fits bs
      → All (Lively w) bs
      → Fits g
      → All GoalItem g
      → length ds + length bs ≡ h.moves
      → from p ms marks at b
      ≡ from in_goal (ds ++ bs) (marks ++ starts at bs) (at + length (moves_bytes bs) + suc (length (items_bytes g))) g
  unfolding moves_bytes starts
  read_blocks [] p ms marks at b ds g rest gap here ok live goal items full =
      read_goal p ms marks at b ds gap g rest here goal items (omega arith) ∙ rw (append-nil ds, add-zero at) refl
  read_blocks (m ∷ bs) p ms marks at b ds g rest gap here ok live goal items full =
      read_move p ms marks at b ds gap m (moves_bytes bs ++ after) here' ok.0 (omega arith)
      ∙ read_blocks bs in_move ds (marks ++ (at ∷ [])) next m (ds ++ (m ∷ [])) g rest (gap_move w ds m live.0)
      (left_after (code_of open_move ∷ items_bytes m) (moves_bytes bs ++ after) here' refl) ok.1 live.1 goal items
      (omega (arith, length-append ds (m ∷ [])))
      ∙ rw (append_assoc ds (m ∷ []) bs, append_assoc marks (at ∷ []) (starts next bs), behind) refl
    where
      after : List ℕ
      after = code_of open_goal ∷ (items_bytes g ++ rest)

      next : ℕ
      next = at + suc (length (items_bytes m))

      here' : Left t at (code_of open_move ∷ (items_bytes m ++ (moves_bytes bs ++ after)))
      here' = rw (append_assoc (items_bytes m) (moves_bytes bs) after) at here

      behind : next + length (moves_bytes bs) ≡ at + length (moves_bytes (m ∷ bs))
      behind = omega (arith, length-append (items_bytes m) (moves_bytes bs))

  -- 45 as the last byte
  pub read_end :
      (ds : List Block) (marks : List ℕ) (at : ℕ) (g : Block)
      → Left t at (code_of end_table ∷ [])
      → from in_goal ds marks at g ≡ verdict_of (table_of (within finished h ds (marks ++ (at ∷ [])) (at + 1) g []))
  unfolding width head_wanted operands wrong5 wrong6 wrong16 in_place advance with_mark at_end
  read_end ds marks at g here =
      passed (mark_passes (within in_goal h ds marks at g []) end_table [] here refl refl refl refl tt refl tt tt)
      ∙ verdict_done L w t e (read_command_end L w t e (omega (arith, left_length here)))
    where
      e : Seen
      e = within finished h ds (marks ++ (at ∷ [])) (at + 1) g []
