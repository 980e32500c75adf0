-- A task with another goal: it has a circle where the task has one; with one part of its own goal alone it stays within every limit; a list
-- that solves it with some goal reaches each part of that goal alone. Assumes nothing.
use Rattle.std.specs.Prelude.{[], ◌∷◌}
use Rattle.model.specs.Task.{Item, Block, Task}

-- the task with another goal
abbrev pub with_goal : Task → Block → Task
with_goal k g = record { props = k.props; vars = k.vars; moves = k.moves; goal = g }

-- the task with one part for its goal: "that one part alone"
abbrev pub alone : Task → Item → Task
alone k i = with_goal k (i ∷ [])
