-- The part that blocks, in the written table: each part of a normal form came from one item of the written goal, and with a goal that
-- still holds that item no list of moves solves the table as written. Assumes nothing.
use Rattle.std.specs.Prelude.{ℕ, ◌+◌, ◌≤◌, ◌<◌, ◌≡◌, ◌∷◌, ◌++◌, length}
use Rattle.model.specs.Task.{Item, Block}
use Rattle.model.specs.NormalForm.{normal_item, normal_block}

-- Part n of the normal form of a written goal came from an item of that goal: the normal forms of the items before it have n parts at
-- most, and with its own there are more.
pub record CameFrom (goal : Block) (n : ℕ) : Type 0 where
  pub before : Block
  pub item : Item
  pub behind : Block
  pub is : goal ≡ before ++ item ∷ behind
  pub low : length (normal_block before) ≤ n
  pub high : n < length (normal_block before) + length (normal_item item)
