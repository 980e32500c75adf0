-- Printed moves, the goal and the end of a table read back: the reading passes each 41, 47 and 45 with its block, counts the
-- moves and keeps their offsets. Assumes nothing.
use Rattle.std.specs.Prelude.{◌≡◌, true, not, ◌&&◌, T}
use mathlib.Core.List.{List}
use Rattle.std.proofs.Math.ListN.{length}
use Rattle.model.specs.Task.{Block}
use Rattle.model.specs.Command.{open_move, open_goal, Place, in_place}
use Rattle.model.specs.Seen.{closed}
use Rattle.model.specs.Reading.{Wanted, opened, checks16, idle}

-- where the next block may open: the moves ds stand closed then
pub record Gap (w : Wanted) (p : Place) (ms : List Block) (b : Block) (ds : List Block) : Type 0 where
  pub closes : closed p ms b ≡ ds
  pub counts : opened p (length ms) ≡ length ds
  pub move_next : in_place p open_move ≡ true
  pub goal_next : in_place p open_goal ≡ true
  pub lively : T (not (checks16 w && idle p b))
