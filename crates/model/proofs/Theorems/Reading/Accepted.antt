-- What an accepted table is (document 01, "Campaign table"): its task is within every limit, its head says what the task has,
-- its bytes are the bytes of its task, and its marks are where the blocks begin. Assumes nothing.
use Rattle.std.specs.Prelude.{ℕ, ◌≤◌, ◌≡◌, refl, false, not, ◌&&◌, List, [], ◌∷◌, ◌++◌, T, length}
use Rattle.std.proofs.Common.{arith, sym, ap, ap₂, ◌∙◌, subst, subst₂, append-nil, take_all}
use Rattle.integer.specs.BigEndian.{AllBytes}
use Rattle.model.specs.Limits.{Limits}
use Rattle.model.specs.Task.{Form, written, normal, Block}
use Rattle.model.specs.Circle.{circular}
use Rattle.model.specs.Command.{Command, head, open_goal, end_table, code_of, items_bytes, moves_bytes, term_bytes, task_bytes, Place, finished, open_move, need_prop, add_prop, delete_prop, term, close_condition, close_effect, unknown, start, preamble, in_move, in_goal}
use Rattle.model.specs.Seen.{Head, Seen, nothing_seen, advance, item_at, closed, with_head, with_mark, with_term, with_item}
use Rattle.model.specs.Reading.{Wanted, only, head_wanted, Table, table_of, accepted, length_limit, reading, checks16, idle, wrong16}
use Rattle.model.specs.Theorems.Reading.WellFormed.{TaskOk, All}
use Rattle.model.specs.Theorems.Reading.Active.{AllActive, Lively}
use Rattle.model.proofs.Theorems.Reading.Active.{passes_lively, lively_active}
use Rattle.model.proofs.Theorems.Reading.Appending.{All-snoc}
use Rattle.model.specs.Theorems.Reading.Commands.{Passes}
use Rattle.model.proofs.Theorems.Reading.Reads.{reading_induction}
use Rattle.model.specs.Theorems.Reading.Soundness.{Stage}
use Rattle.model.proofs.Theorems.Reading.Soundness.{sound_start, sound_step}
use Rattle.model.specs.Theorems.Printing.SeenBytes.{Prints, head_bytes, open_bytes, seen_bytes}
use Rattle.model.proofs.Theorems.Printing.Printed.{printed_step}
use Rattle.model.specs.Theorems.Reading.Marks.{Marked}
use Rattle.model.proofs.Theorems.Reading.Marks.{marked_step}
use Rattle.model.specs.Theorems.Reading.Accepted.{Accepted, HeadBytes, Kept}

closed_lively : (w : Wanted) (p : Place) (ms : List Block) (b : Block) → T (not (checks16 w && idle p b)) → All (Lively w) ms → All (Lively w) (closed p ms b)
unfolding closed
closed_lively w start ms b h a = a
closed_lively w preamble ms b h a = a
closed_lively w in_move ms b h a = All-snoc (Lively w) ms b a (passes_lively w b h)
closed_lively w in_goal ms b h a = a
closed_lively w finished ms b h a = a

pub lively_step : {L : Limits} {w : Wanted} {t : List ℕ} {s : Seen} (c : Command) → Passes L w t s c → All (Lively w) s.moves → All (Lively w) (advance t s c).moves
unfolding advance with_head with_mark with_term with_item item_at wrong16
lively_step (head f) h a = tt
lively_step {w} {s} open_move h a = closed_lively w s.place s.moves s.items h.lively a
lively_step {w} {s} open_goal h a = closed_lively w s.place s.moves s.items h.lively a
lively_step end_table h a = a
lively_step need_prop h a = a
lively_step add_prop h a = a
lively_step delete_prop h a = a
lively_step term h a = a
lively_step close_condition h a = a
lively_step close_effect h a = a
lively_step unknown h a = a

pub kept_start : (L : Limits) (w : Wanted) (t : List ℕ) → Kept L w t nothing_seen
unfolding nothing_seen seen_bytes
kept_start L w t = record { sound = sound_start L w; printed = record { long = refl; same = λ all. refl }; marked = tt; lively = tt }

pub kept_step : (L : Limits) (w : Wanted) (t : List ℕ) (s : Seen) (c : Command) → Kept L w t s → Passes L w t s c → Kept L w t (advance t s c)
kept_step L w t s c k h =
    record {
      sound = sound_step c k.sound h;
      printed = printed_step c k.sound h k.printed;
      marked = marked_step c k.sound h k.printed k.marked;
      lively = lively_step c h k.lively;
    }

finished_bytes : (h : Head) (ms : List Block) (b : Block) → length ms ≡ h.moves → open_bytes open_goal h ms b [] ++ (code_of end_table ∷ []) ≡ task_bytes h.form (record { props = h.props; vars = h.vars; moves = ms; goal = b })
unfolding open_bytes head_bytes task_bytes term_bytes
finished_bytes h ms b e =
    ap₂ (λ (n : ℕ) (l : List ℕ). code_of (head h.form) ∷ h.props ∷ h.vars ∷ n ∷ (l ++ (code_of end_table ∷ []))) (sym e)
    (append-nil (moves_bytes ms ++ (code_of open_goal ∷ items_bytes b)))

accepted_end : (L : Limits) (w : Wanted) (t : List ℕ) (s : Seen) → Kept L w t s → length t ≤ s.at → s.place ≡ finished → circular (table_of s).task ≡ false → length t ≤ length_limit L w t → Accepted L w t (table_of s)
unfolding table_of seen_bytes
accepted_end L w t s k end at_end_lem no_circle_lem short =
    record {
      ok =
          record {
            props = stage.0.props;
            vars = stage.0.vars;
            moves = omega (arith, stage.0.moves, stage.1);
            blocks = k.sound.moves;
            goal = k.sound.items;
            goal_items = stage.2;
            no_circle = no_circle_lem;
          };
      wanted = stage.0.wanted;
      props = refl;
      vars = refl;
      moves = sym stage.1;
      prints = printed;
      marks = subst (λ (p : Place). Marked p s.moves s.items s.marks) at_end_lem k.marked;
      short = short;
      lively = k.lively;
    }
  where
    stage : Stage L w finished s.header s.moves s.items
    stage = subst (λ (p : Place). Stage L w p s.header s.moves s.items) at_end_lem k.sound.stage

    printed : Prints t t (task_bytes s.header.form (table_of s).task)
    printed =
        subst₂ (λ (xs ys : List ℕ). Prints t xs ys) (take_all s.at t end)
        (ap (λ (p : Place). seen_bytes p s.header s.moves s.items s.terms) at_end_lem ∙ finished_bytes s.header s.moves s.items stage.1)
        k.printed

module _ (L : Limits) (w : Wanted) (t : List ℕ) {k : Table} (e : reading L w t ≡ accepted k) where
  pub reading_accepted : Accepted L w t k
  reading_accepted =
      reading_induction L w t (Kept L w t) (Accepted L w t) (kept_step L w t) (accepted_end L w t) (kept_start L w t) e

  -- The task of an accepted table is within every limit: operands in range, rising sums of at most eight terms, each thing named
  -- once in its block, nothing but conditions in the goal, no circle.
  pub reading_ok : TaskOk L k.header.form k.task
  reading_ok = reading_accepted.ok

  -- The head says how many propositions, variables and moves the task has.
  pub reading_head : (k.header.props ≡ k.task.props) × (k.header.vars ≡ k.task.vars) × (k.header.moves ≡ length k.task.moves)
  reading_head = (reading_accepted.props, reading_accepted.vars, reading_accepted.moves)

  -- An accepted table is as long as the bytes of its task, and not too long.
  pub reading_length : length t ≡ length (task_bytes k.header.form k.task)
  reading_length = reading_accepted.prints.long

  -- Every move of a table that passed the check for 16 does something.
  pub reading_active : T (checks16 w) → AllActive k.task.moves
  reading_active c = lively_active w k.task.moves c reading_accepted.lively

  pub reading_limit : length t ≤ length_limit L w t
  reading_limit = reading_accepted.short

  -- An accepted table is the bytes of its task: the format is canonical.
  pub reading_canonical : AllBytes t → t ≡ task_bytes k.header.form k.task
  reading_canonical = reading_accepted.prints.same

pub head_bytes_lem : (L : Limits) (w : Wanted) (t : List ℕ) {k : Table} → reading L w t ≡ accepted k → AllBytes t → HeadBytes t k.header
unfolding task_bytes
head_bytes_lem L w t {k} e all =
    let counts = reading_head L w t e in
    rw (reading_canonical L w t e all)
    (record { form = refl; vars = sym counts.1; moves = sym counts.2 })

-- one verdict accepts one table
pub accepted_one : {k n : Table} → accepted k ≡ accepted n → k ≡ n
accepted_one e = cc

-- A call that wants one head accepts no other.
pub reading_form : (L : Limits) (f : Form) (t : List ℕ) {k : Table} → reading L (only f) t ≡ accepted k → k.header.form ≡ f
unfolding head_wanted
reading_form L f t {k} e = go f k.header.form (reading_accepted L (only f) t e).wanted
  where
    go : (a b : Form) → T (head_wanted (only a) (head b)) → b ≡ a
    go written written h = refl
    go written normal h = absurd h
    go normal written h = absurd h
    go normal normal h = refl

-- Its task is within every limit of that head.
pub reading_task : (L : Limits) (f : Form) (t : List ℕ) {k : Table} → reading L (only f) t ≡ accepted k → TaskOk L f k.task
reading_task L f t {k} e = subst (λ (g : Form). TaskOk L g k.task) (reading_form L f t e) (reading_ok L (only f) t e)
