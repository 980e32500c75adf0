-- A task without its terms of weight 0: it meets every check that the task meets, has the same edges, real moves do the same, the same
-- lists solve it, and it has the same normal form; and back again, terms of weight 0 put into a task. Assumes nothing.
use mathlib.Core.List.{map}
use Rattle.model.specs.Task.{kept, Item, need, add, delete, condition, effect, Block, Task}

-- the item, the block and the task with what is kept of every sum: the term alone goes, its condition or effect stays
unfoldable pub item_without : Item → Item
item_without (need p) = need p
item_without (add p) = add p
item_without (delete p) = delete p
item_without (condition c) = condition (record { terms = kept c.terms; comparison = c.comparison; bound = c.bound })
item_without (effect e) = effect (record { kind = e.kind; var = e.var; terms = kept e.terms; base = e.base })

unfoldable pub block_without : Block → Block
block_without b = map item_without b

unfoldable pub without_zero : Task → Task
without_zero k =
    record { props = k.props; vars = k.vars; moves = map block_without k.moves; goal = block_without k.goal }
