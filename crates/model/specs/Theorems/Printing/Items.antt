-- Printed terms and items read back: an item is printed as its terms and then the command that closes it, and from there the
-- reading goes on with the item seen. Assumes nothing.
use Rattle.std.specs.Prelude.{ℕ, List, [], ◌∷◌}
use Rattle.integer.specs.BigEndian.{signed_bytes}
use Rattle.model.specs.Task.{Item, need, add, delete, condition, effect}
use Rattle.model.specs.Command.{Command, need_prop, add_prop, delete_prop, close_condition, close_effect, code_of, comparison_code, kind_code}

-- ---- an item as its terms and the command that closes it
unfoldable pub item_command : Item → Command
item_command (need p) = need_prop
item_command (add p) = add_prop
item_command (delete p) = delete_prop
item_command (condition c) = close_condition
item_command (effect e) = close_effect

unfoldable pub item_operands : Item → List ℕ
item_operands (need p) = p ∷ []
item_operands (add p) = p ∷ []
item_operands (delete p) = p ∷ []
item_operands (condition c) = comparison_code c.comparison ∷ signed_bytes 4 c.bound
item_operands (effect e) = kind_code e.kind ∷ e.var ∷ signed_bytes 4 e.base

-- the command that closes an item, with its operands
unfoldable pub closing : Item → List ℕ
closing i = code_of (item_command i) ∷ item_operands i
