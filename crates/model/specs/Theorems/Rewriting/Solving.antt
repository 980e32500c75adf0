-- Dropping the moves that do nothing: a list that solved the old table, with those moves dropped and the rest renumbered, solves
-- the new one; a list that solves the new one, numbered back, solves the old. For real and for relaxed moves. Assumes nothing.
use Rattle.std.specs.Prelude.{ℕ, ◌<◌, ◌≡◌, length, get_or}
use Rattle.std.proofs.Math.Bool.{false}
use mathlib.Core.List.{List, []}
use Rattle.std.proofs.Math.Dec.{T}
use Rattle.model.specs.Task.{Block, active}
use Rattle.model.specs.Move.{State}
use Rattle.model.specs.Rewrite.{active_moves, new_number}

-- a way to run a block under which a move that does nothing leaves every state as it is
pub record Inert (run : Block → State → State) : Type 0 where
  pub same : (b : Block) (s : State) → active b ≡ false → run b s ≡ s

-- what the old number of a new move is
pub record Old (ms : List Block) (n o : ℕ) : Type 0 where
  pub within : o < length ms
  pub same : get_or ms o [] ≡ get_or (active_moves ms) n []
  pub does : T (active (get_or ms o []))
  pub again : new_number ms o ≡ n
