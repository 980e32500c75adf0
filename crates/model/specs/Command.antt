-- The commands of a table, and the bytes of a task (document 01, "Campaign table").
-- Assumes nothing.
use Rattle.std.specs.Prelude.{ℕ, Bool, true, false, List, [], ◌∷◌, ◌++◌, eqb, length}
use Rattle.integer.specs.BigEndian.{signed_bytes}
use Rattle.model.specs.Lists.{any}
use Rattle.model.specs.Task.{Form, written, normal, Term, Comparison, at_least, above, at_most, below, equal, Kind, assign, increase, decrease, Item, need, add, delete, condition, effect, Block, Task}

pub data Command : Type 0 where
  head : Form → Command
  open_move open_goal end_table need_prop add_prop delete_prop term close_condition close_effect unknown : Command

-- "One-byte commands (hexadecimal)"
unfoldable pub code_of : Command → ℕ
code_of (head written) = 0x54
code_of (head normal) = 0x4E
code_of open_move = 0x41
code_of open_goal = 0x47
code_of end_table = 0x45
code_of need_prop = 0x50
code_of add_prop = 0x2B
code_of delete_prop = 0x2D
code_of term = 0x57
code_of close_condition = 0x43
code_of close_effect = 0x46
code_of unknown = 0

unfoldable pub commands : List Command
commands =
    head written
    ∷ head normal
    ∷ open_move
    ∷ open_goal
    ∷ end_table
    ∷ need_prop
    ∷ add_prop
    ∷ delete_prop
    ∷ term
    ∷ close_condition
    ∷ close_effect
    ∷ []

unfoldable pub with_code : ℕ → List Command → Command
with_code b [] = unknown
with_code b (c ∷ cs) = elim (eqb b (code_of c)) [ true ↦ c | false ↦ with_code b cs ]

-- the command that a byte stands for
unfoldable pub command_of : ℕ → Command
command_of b = with_code b commands

-- "operands of fixed width": the bytes of a command with its operands
unfoldable pub width : Command → ℕ
width (head f) = 4
width open_move = 1
width open_goal = 1
width end_table = 1
width need_prop = 2
width add_prop = 2
width delete_prop = 2
width term = 4
width close_condition = 6
width close_effect = 7
width unknown = 1

-- where a command stands: at offset 0, behind the head before any block, in a move, in the goal, behind 45
pub data Place : Type 0 where
  start preamble in_move in_goal finished : Place

-- in the order of reading
unfoldable pub order : Place → ℕ
order start = 0
order preamble = 1
order in_move = 2
order in_goal = 3
order finished = 4

-- "Misplaced: a command other than a head at offset 0, a head elsewhere, any of 50, 2B, 2D, 57, 43 or 46 outside a block, 2B, 2D
-- or 46 in the goal, a second 47, 45 before the goal." (41 after the goal is 6, and so is 47 before A moves.)
unfoldable pub may_stand_in : Command → List Place
may_stand_in (head f) = start ∷ []
may_stand_in open_move = preamble ∷ in_move ∷ in_goal ∷ []
may_stand_in open_goal = preamble ∷ in_move ∷ []
may_stand_in end_table = in_goal ∷ []
may_stand_in need_prop = in_move ∷ in_goal ∷ []
may_stand_in add_prop = in_move ∷ []
may_stand_in delete_prop = in_move ∷ []
may_stand_in term = in_move ∷ in_goal ∷ []
may_stand_in close_condition = in_move ∷ in_goal ∷ []
may_stand_in close_effect = in_move ∷ []
may_stand_in unknown = []

unfoldable pub in_place : Place → Command → Bool
unfolding order may_stand_in any
in_place p c = any (λ q. eqb (order p) (order q)) (may_stand_in c)

-- "Terms are left open where a command other than 57, 43 or 46 follows a term"
unfoldable pub after_term : Command → Bool
after_term (head f) = false
after_term open_move = false
after_term open_goal = false
after_term end_table = false
after_term need_prop = false
after_term add_prop = false
after_term delete_prop = false
after_term term = true
after_term close_condition = true
after_term close_effect = true
after_term unknown = false

-- "o is 0 ≥, 1 >, 2 ≤, 3 <, 4 ="
unfoldable pub comparison_code : Comparison → ℕ
comparison_code at_least = 0
comparison_code above = 1
comparison_code at_most = 2
comparison_code below = 3
comparison_code equal = 4

-- "k is 0 := , 1 += , 2 −="
unfoldable pub kind_code : Kind → ℕ
kind_code assign = 0
kind_code increase = 1
kind_code decrease = 2

-- the bytes of a sum's terms, of an item, of the items of a block
unfoldable pub term_bytes : List Term → List ℕ
term_bytes [] = []
term_bytes (t ∷ ts) = code_of term ∷ t.var ∷ signed_bytes 2 t.weight ++ term_bytes ts

unfoldable pub item_bytes : Item → List ℕ
item_bytes (need p) = code_of need_prop ∷ p ∷ []
item_bytes (add p) = code_of add_prop ∷ p ∷ []
item_bytes (delete p) = code_of delete_prop ∷ p ∷ []
item_bytes (condition c) =
    term_bytes c.terms
    ++ code_of close_condition
    ∷ comparison_code c.comparison
    ∷ signed_bytes 4 c.bound
item_bytes (effect e) =
    term_bytes e.terms
    ++ code_of close_effect
    ∷ kind_code e.kind
    ∷ e.var
    ∷ signed_bytes 4 e.base

unfoldable pub items_bytes : Block → List ℕ
items_bytes [] = []
items_bytes (i ∷ b) = item_bytes i ++ items_bytes b

unfoldable pub moves_bytes : List Block → List ℕ
moves_bytes [] = []
moves_bytes (b ∷ bs) = code_of open_move ∷ items_bytes b ++ moves_bytes bs

-- the table that a task is written as
unfoldable pub task_bytes : Form → Task → List ℕ
task_bytes f k =
    code_of (head f)
    ∷ k.props
    ∷ k.vars
    ∷ length k.moves
    ∷ moves_bytes k.moves
    ++ code_of open_goal
    ∷ items_bytes k.goal
    ++ code_of end_table
    ∷ []
