-- A printed task reads back: the bytes of a task that meets every check of its table's form are accepted, as that task.
-- Assumes nothing.
use Rattle.std.specs.Prelude.{ℕ, suc, ◌+◌, ◌≤◌, ◌≡◌, true}
use Rattle.std.proofs.Common.{arith, ◌∙◌, le→leb}
use Rattle.std.proofs.Math.Path.{refl}
use mathlib.Core.List.{List, [], ◌∷◌, ◌++◌, append_assoc}
use Rattle.std.proofs.Math.ListN.{length, length-append}
use Rattle.model.specs.Limits.{Limits}
use Rattle.model.specs.Task.{Form, written, normal, Task}
use Rattle.model.specs.Command.{head, open_move, open_goal, end_table, code_of, width, items_bytes, moves_bytes, task_bytes, preamble, in_place}
use Rattle.model.specs.Seen.{nothing_seen, byte_after, with_head, advance}
use Rattle.model.specs.Reading.{accepted, Wanted, only, both, head_wanted, leaves_open, wrong6, wrong5, operands, table_of, verdict_of, length_limit, reading, wrong16}
use Rattle.model.specs.Theorems.Reading.WellFormed.{TaskOk, All}
use Rattle.model.specs.Theorems.Reading.Active.{AllActive, Lively}
use Rattle.model.proofs.Theorems.Reading.Active.{all_lively}
use Rattle.model.proofs.Theorems.Reading.Reads.{verdict_from, reading_short}
use Rattle.model.proofs.Theorems.Reading.Appending.{moves_bytes_snoc}
use Rattle.model.specs.Theorems.Reading.Marks.{starts}
use Rattle.model.proofs.Theorems.Reading.Marks.{starts_snoc}
use Rattle.model.specs.Theorems.Printing.Passing.{Left, SmallLimits}
use Rattle.model.proofs.Theorems.Printing.Passing.{left_length, left_byte, left_code, left_after, well_placed, passed}
use Rattle.model.proofs.Theorems.Printing.Operands.{vars_range}
use Rattle.model.specs.Theorems.Printing.Blocks.{within}
use Rattle.model.proofs.Theorems.Printing.Moves.{gap_start, read_blocks, read_end}
use Rattle.model.specs.Theorems.Printing.Tables.{head_of, marks_of, printed_table}

-- ---- reading it
module _ (L : Limits) (w : Wanted) (f : Form) (k : Task)
    (small : SmallLimits L) (ok : TaskOk L f k) (lively : All (Lively w) k.moves) (wanted : head_wanted w (head f) ≡ true)
  where
    t : List ℕ
    t = task_bytes f k

    end : List ℕ
    end = code_of end_table ∷ []

    goal : List ℕ
    goal = code_of open_goal ∷ (items_bytes k.goal ++ end)

    -- where the parts of the table stand
    at_head : Left t 0 (code_of (head f) ∷ k.props ∷ k.vars ∷ length k.moves ∷ (moves_bytes k.moves ++ goal))
    unfolding t end goal task_bytes
    at_head = record { left = rw (append_assoc (moves_bytes k.moves) (code_of open_goal ∷ items_bytes k.goal) end) refl }

    at_moves : Left t 4 (moves_bytes k.moves ++ goal)
    at_moves =
        left_after (code_of (head f) ∷ k.props ∷ k.vars ∷ length k.moves ∷ [])
        (moves_bytes k.moves ++ goal) at_head refl

    abbrev end_offset : ℕ
    end_offset = 4 + length (moves_bytes k.moves) + suc (length (items_bytes k.goal))

    at_end_lem : Left t end_offset end
    unfolding goal
    at_end_lem =
        left_after (code_of open_goal ∷ items_bytes k.goal) end (left_after (moves_bytes k.moves) goal at_moves refl) refl

    read_head : verdict_from L w t nothing_seen ≡ verdict_from L w t (within preamble (head_of f k) [] [] 4 [] [])
    unfolding nothing_seen head_of in_place width leaves_open wrong6 wrong16 wrong5 operands byte_after advance with_head
    read_head =
        passed {c = head f}
        (record {
          code = left_code at_head;
          placed = well_placed w nothing_seen (head f) refl wanted refl;
          uncut = omega (arith, left_length at_head);
          counted = tt;
          lively = tt;
          ranged = (
            rw (left_byte at_head 1) (le→leb k.props L.props ok.props),
            (
              rw (left_byte at_head 2) (vars_range L f k.vars ok.vars),
              (rw (left_byte at_head 3) (le→leb (length k.moves) L.moves ok.moves), tt),
            ),
          );
          fresh = tt;
        })
        ∙ rw (left_byte at_head 1, left_byte at_head 2, left_byte at_head 3) refl

    marks_seen : starts 4 k.moves ++ (end_offset ∷ []) ≡ marks_of k
    unfolding marks_of
    marks_seen =
        let moves = moves_bytes k.moves in
        let e : 4 + length (moves_bytes (k.moves ++ (k.goal ∷ []))) ≡ end_offset =
        rw (moves_bytes_snoc k.moves k.goal)
        (omega (arith, length-append moves (code_of open_move ∷ items_bytes k.goal))) in
        rw (starts_snoc 4 k.moves k.goal, e) refl

    read_task : verdict_from L w t nothing_seen ≡ accepted (printed_table f k)
    unfolding goal end printed_table head_of table_of verdict_of
    read_task =
        read_head
        ∙ read_blocks L w t small (head_of f k) k.moves preamble [] [] 4 [] [] k.goal end (gap_start w) at_moves
        ok.blocks lively ok.goal ok.goal_items (omega arith)
        ∙ read_end L w t small (head_of f k) k.moves (starts 4 k.moves) end_offset k.goal at_end_lem
        ∙ rw (ok.no_circle, verdict_of, marks_seen) refl

    -- Every task that meets the checks of a table of form f, printed within the length that the call allows, is read back by
    -- every call that takes that head and its moves: accepted, with the head's counts, this task, and the offsets of its 41, 47 and 45.
    pub print_read :
        length (task_bytes f k) ≤ length_limit L w (task_bytes f k)
        → reading L w (task_bytes f k) ≡ accepted (printed_table f k)
    unfolding t
    print_read short = reading_short L w t short ∙ read_task

-- the calls that want one head
pub print_read_only :
    {L : Limits} (f : Form) (k : Task)
    → SmallLimits L
    → TaskOk L f k
    → AllActive k.moves
    → length (task_bytes f k) ≤ length_limit L (only f) (task_bytes f k)
    → reading L (only f) (task_bytes f k) ≡ accepted (printed_table f k)
unfolding head_wanted
print_read_only {L} written k small ok does short = print_read L (only written) written k small ok (all_lively (only written) k.moves does) refl short
print_read_only {L} normal k small ok does short = print_read L (only normal) normal k small ok (all_lively (only normal) k.moves does) refl short

-- read and the reader, which take both: "32,000 if the first byte is 54 and 64,000 otherwise", which is the limit of the form
both_limit :
    (L : Limits) (f : Form) (k : Task)
    → length_limit L both (task_bytes f k) ≡ length_limit L (only f) (task_bytes f k)
unfolding length_limit task_bytes code_of
both_limit L written k = refl
both_limit L normal k = refl

pub print_read_both :
    {L : Limits} (f : Form) (k : Task)
    → SmallLimits L
    → TaskOk L f k
    → AllActive k.moves
    → length (task_bytes f k) ≤ length_limit L (only f) (task_bytes f k)
    → reading L both (task_bytes f k) ≡ accepted (printed_table f k)
unfolding head_wanted
print_read_both {L} f k small ok does short = print_read L both f k small ok (all_lively both k.moves does) refl (rw (both_limit L f k) short)
