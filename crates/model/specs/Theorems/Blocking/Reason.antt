-- "It is the true reason": a part of the goal is met in the last layer exactly when some list of relaxed moves reaches it alone; so the
-- first part that the last layer does not meet is the first that no list reaches, and no goal that still holds it is reached.
-- Assumes nothing.
use Rattle.std.specs.Prelude.{ℕ, ◌<◌, List, length}
use Rattle.model.specs.Task.{Item, Task}
use Rattle.model.specs.Move.{State, relaxed, Solves}
use Rattle.model.specs.Blocking.{goal_part}
use Rattle.model.specs.Theorems.Blocking.Goals.{alone}

-- some list of relaxed moves reaches the part alone
pub record Reachable (k : Task) (s : State) (i : Item) : Type 0 where
  pub list : List ℕ
  pub solves : Solves relaxed (alone k i) s list

-- "no list of relaxed moves, of any length, reaches that one part alone"
abbrev pub Unreachable : Task → State → Item → Type 0
Unreachable k s i = (list : List ℕ) → Solves relaxed (alone k i) s list → ⊥

-- ---- the first part that no list reaches
-- part n is the first, in table order, that no list of relaxed moves reaches alone
pub record FirstUnreachable (k : Task) (s : State) (n : ℕ) : Type 0 where
  pub inside : n < length k.goal
  pub unreachable : Unreachable k s (goal_part k n)
  pub before : (u : ℕ) → u < n → Reachable k s (goal_part k u)
