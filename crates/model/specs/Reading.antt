-- Reading a table: every check of document 01's table "Where a call turns back", in its order, and 16 of document 02, with number
-- and place, and the task that accepted bytes stand for. One reading gives both. Assumes nothing.
use Rattle.std.specs.Prelude.{ℕ, zero, suc, ◌+◌, Bool, true, false, cond, ◌&&◌, ◌||◌, not, List, [], ◌∷◌, eqb, leb, ltb, length, get_or}
use Rattle.std.proofs.Math.Option.{Option, none, some}
use Rattle.model.specs.declared.Refusal.{Refusal}
use Rattle.model.specs.Limits.{Limits, vars_in_range, weight_in_range, comparison_in_range, kind_in_range, base_in_range, bound_in_range}
use Rattle.model.specs.Lists.{all, any}
use Rattle.model.specs.Task.{Form, written, normal, Item, Block, Task, clashes, active}
use Rattle.model.specs.Command.{Command, head, open_move, open_goal, end_table, need_prop, add_prop, delete_prop, term, close_condition, close_effect, unknown, code_of, command_of, width, Place, start, preamble, in_move, in_goal, finished, in_place, after_term}
use Rattle.model.specs.Seen.{Head, Seen, nothing_seen, byte_after, number_after, item_at, advance}
use Rattle.model.specs.Circle.{circular}

-- what an accepted table says; marks are the offsets of its 41, 47 and 45 commands
pub record Table : Type 0 where
  pub header : Head
  pub task : Task
  pub marks : List ℕ

pub data Verdict : Type 0 where
  accepted : Table → Verdict
  refused : Refusal → Verdict

-- the heads a call takes: "Normalise and step want head 54, decide and plan 4E; read and the reader take both."
-- The rewriter takes stored tables: it "takes both heads, with read's limits, and makes all checks but 16".
pub data Wanted : Type 0 where
  only : Form → Wanted
  both : Wanted
  stored : Wanted

-- ---- 3: "unknown, misplaced, wrong head for the call, terms left open, bytes after 45"

takes_head : Wanted → Form → Bool
takes_head both f = true
takes_head stored f = true
takes_head (only written) written = true
takes_head (only written) normal = false
takes_head (only normal) written = false
takes_head (only normal) normal = true

unfoldable pub head_wanted : Wanted → Command → Bool
unfolding takes_head
head_wanted w (head f) = takes_head w f
head_wanted w open_move = true
head_wanted w open_goal = true
head_wanted w end_table = true
head_wanted w need_prop = true
head_wanted w add_prop = true
head_wanted w delete_prop = true
head_wanted w term = true
head_wanted w close_condition = true
head_wanted w close_effect = true
head_wanted w unknown = true

unfoldable pub leaves_open : Seen → Command → Bool
leaves_open s c = ltb 0 (length s.terms) && not (after_term c)

unfoldable pub wrong3 : Wanted → Seen → Command → Bool
wrong3 w s c = not (in_place s.place c) || not (head_wanted w c) || leaves_open s c

-- ---- 2: "operands cut"

unfoldable pub wrong2 : List ℕ → Seen → Command → Bool
wrong2 t s c = ltb (length t) (s.at + width c)

-- ---- 6: "41 beyond A, after the goal too; 47 before A moves"

-- how many moves have been opened
unfoldable pub opened : Place → ℕ → ℕ
opened start n = 0
opened preamble n = 0
opened in_move n = suc n
opened in_goal n = n
opened finished n = n

unfoldable pub wrong6 : Seen → Command → Bool
wrong6 s (head f) = false
wrong6 s open_move = leb s.header.moves (opened s.place (length s.moves))
wrong6 s open_goal = ltb (opened s.place (length s.moves)) s.header.moves
wrong6 s end_table = false
wrong6 s need_prop = false
wrong6 s add_prop = false
wrong6 s delete_prop = false
wrong6 s term = false
wrong6 s close_condition = false
wrong6 s close_effect = false
wrong6 s unknown = false

-- ---- 16: a move without 2B, 2D or 46, "place the command that closes its block"

-- "is now refused in both kinds of table"; the rewriter "makes all checks but 16"
unfoldable pub checks16 : Wanted → Bool
checks16 (only f) = true
checks16 both = true
checks16 stored = false

-- is the open block a move that does nothing
unfoldable pub idle : Place → Block → Bool
idle start b = false
idle preamble b = false
idle in_move b = not (active b)
idle in_goal b = false
idle finished b = false

unfoldable pub wrong16 : Wanted → Seen → Command → Bool
wrong16 w s (head f) = false
wrong16 w s open_move = checks16 w && idle s.place s.items
wrong16 w s open_goal = checks16 w && idle s.place s.items
wrong16 w s end_table = false
wrong16 w s need_prop = false
wrong16 w s add_prop = false
wrong16 w s delete_prop = false
wrong16 w s term = false
wrong16 w s close_condition = false
wrong16 w s close_effect = false
wrong16 w s unknown = false

-- ---- 4: "operand out of range"

-- the operands of a command: how far behind it each stands, and whether it is in range
pub record Operand : Type 0 where
  pub offset : ℕ
  pub in_range : Bool

unfoldable pub operands : Limits → List ℕ → Seen → Command → List Operand
operands L t s (head f) =
    record { offset = 1; in_range = leb (byte_after t s 1) L.props }
    ∷ record { offset = 2; in_range = vars_in_range L f (byte_after t s 2) }
    ∷ record { offset = 3; in_range = leb (byte_after t s 3) L.moves }
    ∷ []
operands L t s open_move = []
operands L t s open_goal = []
operands L t s end_table = []
operands L t s need_prop = record { offset = 1; in_range = ltb (byte_after t s 1) s.header.props } ∷ []
operands L t s add_prop = record { offset = 1; in_range = ltb (byte_after t s 1) s.header.props } ∷ []
operands L t s delete_prop = record { offset = 1; in_range = ltb (byte_after t s 1) s.header.props } ∷ []
operands L t s term =
    record { offset = 1; in_range = ltb (byte_after t s 1) s.header.vars }
    ∷ record { offset = 2; in_range = weight_in_range L s.header.form (number_after 2 t s 2) }
    ∷ []
operands L t s close_condition =
    record { offset = 1; in_range = comparison_in_range s.header.form (byte_after t s 1) }
    ∷ record { offset = 2; in_range = bound_in_range L s.header.form (number_after 4 t s 2) }
    ∷ []
operands L t s close_effect =
    record { offset = 1; in_range = kind_in_range s.header.form (byte_after t s 1) }
    ∷ record { offset = 2; in_range = ltb (byte_after t s 2) s.header.vars }
    ∷ record { offset = 3; in_range = base_in_range L (number_after 4 t s 3) }
    ∷ []
operands L t s unknown = []

-- "the first such one"
unfoldable pub first_wrong : List Operand → Option ℕ
first_wrong [] = none
first_wrong (o ∷ os) = elim o.in_range [ true ↦ first_wrong os | false ↦ some o.offset ]

-- ---- 5: "named again, not rising, ninth term"

unfoldable pub named_again : Block → Option Item → Bool
named_again b none = false
named_again b (some i) = any (λ j. clashes j i) b

unfoldable pub wrong5 : Limits → List ℕ → Seen → Command → Bool
wrong5 L t s (head f) = false
wrong5 L t s open_move = false
wrong5 L t s open_goal = false
wrong5 L t s end_table = false
wrong5 L t s need_prop = named_again s.items (item_at t s need_prop)
wrong5 L t s add_prop = named_again s.items (item_at t s add_prop)
wrong5 L t s delete_prop = named_again s.items (item_at t s delete_prop)
wrong5 L t s term = not (all (λ u. ltb u.var (byte_after t s 1)) s.terms) || leb L.terms (length s.terms)
wrong5 L t s close_condition = false
wrong5 L t s close_effect = named_again s.items (item_at t s close_effect)
wrong5 L t s unknown = false

-- ---- one command

unfoldable pub refused_at : ℕ → Bool → ℕ → Option Refusal
refused_at n true p = some (record { number = n; place = p })
refused_at n false p = none

-- 4 stands at the operand
unfoldable pub refused_operand : ℕ → Option ℕ → Option Refusal
refused_operand p none = none
refused_operand p (some o) = some (record { number = 4; place = p + o })

unfoldable pub first_refusal : List (Option Refusal) → Option Refusal
first_refusal [] = none
first_refusal (none ∷ rs) = first_refusal rs
first_refusal (some r ∷ rs) = some r

-- "each command, in this order": 3, 2, 6, 4, 5, with 16 "checked after 6"
unfoldable pub refusal : Limits → Wanted → List ℕ → Seen → Command → Option Refusal
refusal L w t s c =
    first_refusal
    (refused_at 3 (wrong3 w s c) s.at
    ∷ refused_at 2 (wrong2 t s c) s.at
    ∷ refused_at 6 (wrong6 s c) s.at
    ∷ refused_at 16 (wrong16 w s c) s.at
    ∷ refused_operand s.at (first_wrong (operands L t s c))
    ∷ refused_at 5 (wrong5 L t s c) s.at
    ∷ [])

-- ---- the whole table

-- the table that has been read to its end
unfoldable pub table_of : Seen → Table
table_of s =
    record {
      header = s.header;
      task =
          record { props = s.header.props; vars = s.header.vars; moves = s.moves; goal = s.items };
      marks = s.marks;
    }

-- "after 45 | 7 | := circle | 0"
unfoldable pub verdict_of : Table → Verdict
verdict_of k = elim (circular k.task) [ true ↦ refused (record { number = 7; place = 0 }) | false ↦ accepted k ]

-- where no command is left: "no command where one is due", place the length, unless 45 was read
unfoldable pub at_end : List ℕ → Seen → Place → Verdict
at_end t s start = refused (record { number = 2; place = length t })
at_end t s preamble = refused (record { number = 2; place = length t })
at_end t s in_move = refused (record { number = 2; place = length t })
at_end t s in_goal = refused (record { number = 2; place = length t })
at_end t s finished = verdict_of (table_of s)

pub data Step : Type 0 where
  more : Seen → Step
  done : Verdict → Step

unfoldable pub step_with : List ℕ → Seen → Command → Option Refusal → Step
step_with t s c none = more (advance t s c)
step_with t s c (some r) = done (refused r)

unfoldable pub read_command : Limits → Wanted → List ℕ → Seen → Step
read_command L w t s =
    elim (ltb s.at (length t)) [
      | true ↦
          let c = command_of (get_or t s.at 0) in
          step_with t s c (refusal L w t s c)
      | false ↦ done (at_end t s s.place)
    ]

unfoldable pub continue : (Seen → Verdict) → Step → Verdict
continue f (more s) = f s
continue f (done v) = v

-- Each command takes at least one byte, so that as many turns as there are bytes, and one for the end, always suffice
-- (`Theorems.Reading.Reads`).
unfoldable pub read_from : Limits → Wanted → List ℕ → ℕ → Seen → Verdict
read_from L w t zero s = refused (record { number = 2; place = length t })
read_from L w t (suc n) s = continue (λ d. read_from L w t n d) (read_command L w t s)

-- "read and the reader allow 32,000 if the first byte is 54 and 64,000 otherwise, other calls the limit of the head they want"
abbrev read_limit : Limits → List ℕ → ℕ
read_limit L t = cond (eqb (get_or t 0 0) (code_of (head written))) L.written_length L.normal_length

unfoldable pub length_limit : Limits → Wanted → List ℕ → ℕ
length_limit L (only written) t = L.written_length
length_limit L (only normal) t = L.normal_length
length_limit L both t = read_limit L t
length_limit L stored t = read_limit L t

-- "table, whole | 1 | too long | 0", then command by command
unfoldable pub reading : Limits → Wanted → List ℕ → Verdict
reading L w t =
    elim (ltb (length_limit L w t) (length t)) [
      | true ↦ refused (record { number = 1; place = 0 })
      | false ↦ read_from L w t (suc (length t)) nothing_seen
    ]
