-- PDDL text is one to one: tables with states that give the same text have the same state, moves and goal, the conditions and the
-- effects of each in the same order; and where these are the same, so is the text. Assumes nothing.
use Rattle.std.specs.Prelude.{◌≡◌}
use mathlib.Core.List.{[], ◌∷◌, map}
use Rattle.model.specs.Task.{need, add, delete, condition, effect, Block, Task}
use Rattle.model.specs.Move.{State}
use Rattle.model.specs.Theorems.Reading.Agreeing.{AgreeBelow}

-- ---- what is the same

-- the conditions of a block in their order, and its effects in theirs
unfoldable pub conditions_of : Block → Block
conditions_of [] = []
conditions_of (need p ∷ b) = need p ∷ conditions_of b
conditions_of (add p ∷ b) = conditions_of b
conditions_of (delete p ∷ b) = conditions_of b
conditions_of (condition c ∷ b) = condition c ∷ conditions_of b
conditions_of (effect e ∷ b) = conditions_of b

unfoldable pub effects_of : Block → Block
effects_of [] = []
effects_of (need p ∷ b) = effects_of b
effects_of (add p ∷ b) = add p ∷ effects_of b
effects_of (delete p ∷ b) = delete p ∷ effects_of b
effects_of (condition c ∷ b) = effects_of b
effects_of (effect e ∷ b) = effect e ∷ effects_of b

-- "the same state, moves and goal, the conditions and the effects of each in the same order"
pub record Same (k n : Task) (s t : State) : Type 0 where
  pub props : k.props ≡ n.props
  pub vars : k.vars ≡ n.vars
  pub state : AgreeBelow k.props k.vars s t
  pub conditions : map conditions_of k.moves ≡ map conditions_of n.moves
  pub effects : map effects_of k.moves ≡ map effects_of n.moves
  pub goal : conditions_of k.goal ≡ conditions_of n.goal
