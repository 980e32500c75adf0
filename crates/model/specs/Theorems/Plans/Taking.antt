-- The wants and counts of one layer while they are made: what holds of them, and what a want carried down or a move taken adds
-- (document 01, "Plan"). Assumes nothing.
use Rattle.std.specs.Prelude.{ℕ, ◌+◌, ◌≤◌, ◌<◌}
use Rattle.model.specs.Task.{Task}
use Rattle.model.specs.Move.{State, move_at}
use Rattle.model.specs.Layer.{Layer}
use Rattle.model.specs.Plan.{no_wants, Descent}
use Rattle.model.specs.Theorems.Plans.Targets.{Above, Sat}
use Rattle.model.specs.Theorems.Plans.Supporting.{repeated}

-- ---- what holds of the wants and counts of one layer while they are made
-- between the states y and z move b has run, as often as its count
pub record RanOne (k : Task) (count : ℕ → ℕ) (b : ℕ) (y z : State) : Type 0 where
  pub before : State
  pub start : Above y before
  pub end : Above (repeated (count b) (move_at k b) before) z

-- all the moves from first on, n of them, have run, in any order
pub record Ran (k : Task) (count : ℕ → ℕ) (first n : ℕ) (y z : State) : Type 0 where
  pub above : Above y z
  pub each : (b : ℕ) → first ≤ b → b < first + n → RanOne k count b y z

-- more is wanted, and no count is smaller
pub record Grows (d e : Descent) : Type 0 where
  pub wants : (x : Layer) → Sat e.wants x → Sat d.wants x
  pub count : (b : ℕ) → d.count b ≤ e.count b

-- nothing is wanted and no move counted
abbrev pub nothing : Descent
nothing = record { wants = no_wants; count = λ b. 0 }
