-- What a task is printed as are bytes: "operands of fixed width", one byte each count, proposition, variable, comparison and
-- kind. Assumes nothing.
use Rattle.std.specs.Prelude.{ℕ, ◌<◌}
use Rattle.std.proofs.Common.{arith}
use mathlib.Core.List.{List, [], ◌∷◌, ◌++◌}
use Rattle.integer.specs.BigEndian.{AllBytes, signed_bytes}
use Rattle.integer.proofs.BigEndian.{all_tail, all_cons, all_nil, signed_bytes_small}
use Rattle.model.specs.Limits.{Limits}
use Rattle.model.specs.Task.{Form, written, normal, Term, Comparison, at_least, above, at_most, below, equal, Kind, assign, increase, decrease, Item, need, add, delete, condition, effect, Block, Task, terms_of}
use Rattle.model.specs.Command.{Command, head, open_move, open_goal, end_table, need_prop, add_prop, delete_prop, term, close_condition, close_effect, unknown, code_of, comparison_code, kind_code, term_bytes, item_bytes, items_bytes, moves_bytes, task_bytes}
use Rattle.model.specs.Theorems.Reading.WellFormed.{All, TermOk, ItemOk, BlockOk, VarsOk, TaskOk}
use Rattle.model.specs.Theorems.Printing.Passing.{SmallLimits}
use Rattle.model.specs.Theorems.Printing.Items.{item_command, item_operands}
use Rattle.model.proofs.Theorems.Printing.Items.{item_parts, item_sum}

pub all_append : (xs ys : List ℕ) → AllBytes xs → AllBytes ys → AllBytes (xs ++ ys)
all_append [] ys a b = b
all_append (x ∷ xs) ys a b = all_cons (a.each 0) (all_append xs ys (all_tail a) b)

code_byte : (c : Command) → code_of c < 256
unfolding code_of
code_byte (head written) = omega arith
code_byte (head normal) = omega arith
code_byte open_move = omega arith
code_byte open_goal = omega arith
code_byte end_table = omega arith
code_byte need_prop = omega arith
code_byte add_prop = omega arith
code_byte delete_prop = omega arith
code_byte term = omega arith
code_byte close_condition = omega arith
code_byte close_effect = omega arith
code_byte unknown = omega arith

comparison_byte : (o : Comparison) → comparison_code o < 256
unfolding comparison_code
comparison_byte at_least = omega arith
comparison_byte above = omega arith
comparison_byte at_most = omega arith
comparison_byte below = omega arith
comparison_byte equal = omega arith

kind_byte : (k : Kind) → kind_code k < 256
unfolding kind_code
kind_byte assign = omega arith
kind_byte increase = omega arith
kind_byte decrease = omega arith

-- a written table has at most as many variables as the limit, a normal one twice as many
vars_byte : (L : Limits) (f : Form) (n : ℕ) → SmallLimits L → VarsOk L f n → n < 256
vars_byte L written n small ok = omega (arith, small.vars)
vars_byte L normal n small ok = omega (arith, small.vars, ok.0)

module _ (L : Limits) (f : Form) (props vars : ℕ) (few_props : props < 256) (few_vars : vars < 256) where
  term_bytes_lem : (ts : List Term) → All (TermOk L f vars) ts → AllBytes (term_bytes ts)
  unfolding term_bytes
  term_bytes_lem [] ok = all_nil
  term_bytes_lem (t ∷ ts) ok =
      all_cons (code_byte term)
      (all_cons (omega (arith, ok.0.var))
      (all_append (signed_bytes 2 t.weight) (term_bytes ts) (signed_bytes_small 2 t.weight) (term_bytes_lem ts ok.1)))

  operand_bytes : (i : Item) → ItemOk L f props vars i → AllBytes (item_operands i)
  unfolding item_operands
  operand_bytes (need p) ok = all_cons (omega arith) all_nil
  operand_bytes (add p) ok = all_cons (omega arith) all_nil
  operand_bytes (delete p) ok = all_cons (omega arith) all_nil
  operand_bytes (condition c) ok = all_cons (comparison_byte c.comparison) (signed_bytes_small 4 c.bound)
  operand_bytes (effect e) ok = all_cons (kind_byte e.kind) (all_cons (omega (arith, ok.var)) (signed_bytes_small 4 e.base))

  item_bytes_lem : (i : Item) → ItemOk L f props vars i → AllBytes (item_bytes i)
  item_bytes_lem i ok =
      rw (item_parts i)
      (all_append (term_bytes (terms_of i)) (code_of (item_command i) ∷ item_operands i)
      (term_bytes_lem (terms_of i) (item_sum L f props vars i ok).terms)
      (all_cons (code_byte (item_command i)) (operand_bytes i ok)))

  items_bytes_lem : (b : Block) → All (ItemOk L f props vars) b → AllBytes (items_bytes b)
  unfolding items_bytes
  items_bytes_lem [] ok = all_nil
  items_bytes_lem (i ∷ b) ok = all_append (item_bytes i) (items_bytes b) (item_bytes_lem i ok.0) (items_bytes_lem b ok.1)

  moves_bytes_lem : (bs : List Block) → All (BlockOk L f props vars) bs → AllBytes (moves_bytes bs)
  unfolding moves_bytes
  moves_bytes_lem [] ok = all_nil
  moves_bytes_lem (b ∷ bs) ok =
      all_append (code_of open_move ∷ items_bytes b) (moves_bytes bs)
      (all_cons (code_byte open_move) (items_bytes_lem b ok.0.items)) (moves_bytes_lem bs ok.1)

-- Each number that a well-formed task is printed as is a byte.
pub print_bytes : (L : Limits) (f : Form) (k : Task) → SmallLimits L → TaskOk L f k → AllBytes (task_bytes f k)
unfolding task_bytes
print_bytes L f k small ok =
    all_cons (code_byte (head f)) (all_cons few_props (all_cons few_vars (all_cons (omega (arith, small.moves, ok.moves))
    (all_append (moves_bytes k.moves ++ goal) (code_of end_table ∷ [])
    (all_append (moves_bytes k.moves) goal (moves_bytes_lem L f k.props k.vars few_props few_vars k.moves ok.blocks)
    (all_cons (code_byte open_goal) (items_bytes_lem L f k.props k.vars few_props few_vars k.goal ok.goal.items)))
    (all_cons (code_byte end_table) all_nil)))))
  where
    few_props : k.props < 256
    few_props = omega (arith, small.props, ok.props)

    few_vars : k.vars < 256
    few_vars = vars_byte L f k.vars small ok.vars

    goal : List ℕ
    goal = code_of open_goal ∷ items_bytes k.goal
