-- The parts of a task's blocks: behind the byte that opens a block, its items are left. Assumes nothing.
use Rattle.std.specs.Prelude.{ℕ, ◌<◌, ◌≡◌, List, [], ◌∷◌, length, get_or}
use Rattle.model.specs.Limits.{paper}
use Rattle.model.specs.Task.{Form, Task}
use Rattle.model.specs.Command.{open_move, open_goal, code_of, items_bytes}
use Rattle.model.specs.Theorems.Reading.WellFormed.{TaskOk}
use Rattle.model.proofs.Theorems.Layers.NextLayer.{move_ok}
use Rattle.block.specs.Items.{Ranges, Left, left_start}

abbrev pub ranges_of : Form → Task → Ranges
ranges_of f k = record { form = f; props = k.props; vars = k.vars }

module _ {f : Form} {k : Task} (ok : TaskOk paper f k) {part : List ℕ} where
  pub move_left :
      (b : ℕ) → b < length k.moves
      → part ≡ code_of open_move ∷ items_bytes (get_or k.moves b [])
      → Left (ranges_of f k) part 1 (get_or k.moves b [])
  move_left b h e = left_start (code_of open_move) e (move_ok ok b h).items

  pub goal_left : part ≡ code_of open_goal ∷ items_bytes k.goal → Left (ranges_of f k) part 1 k.goal
  goal_left e = left_start (code_of open_goal) e ok.goal.items
