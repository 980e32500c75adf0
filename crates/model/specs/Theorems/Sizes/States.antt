-- Sizes of the numbers of a state and of a real move: an accepted state's values are within ±1,000,000, a move's sums within
-- ±8,000,000,000 and its results, before they are checked, within ±8,002,000,000. Assumes nothing.
use Rattle.std.specs.Prelude.{ℕ, ◌≤◌, ◌<◌}
use Rattle.std.proofs.Math.IntN.{nat_abs}
use Rattle.model.specs.Move.{State}

-- ---- states

-- "within ±1,000,000": an accepted state, and its signed variables
pub record SmallState (vars : ℕ) (s : State) : Type 0 where
  pub values : (v : ℕ) → v < vars → nat_abs (s.val v) ≤ 1_000_000
