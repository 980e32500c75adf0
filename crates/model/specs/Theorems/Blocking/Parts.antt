-- The parts of a goal: which one is the first that a layer does not meet, and where its 50 or 43 stands in the normal table.
-- Assumes nothing.
use Rattle.std.specs.Prelude.{ℕ, ◌<◌, true, false}
use Rattle.std.proofs.Math.Path.{◌≡◌}
use mathlib.Core.List.{[], ◌∷◌, ◌++◌}
use Rattle.std.proofs.Math.ListN.{length}
use Rattle.model.specs.Task.{Block, Task}
use Rattle.model.specs.Command.{items_bytes}
use Rattle.model.specs.Layer.{Layer, holds_in}
use Rattle.model.specs.Blocking.{goal_part}
use Rattle.model.specs.Theorems.Printing.Items.{closing}

-- ---- the first part that a layer does not meet

-- "the first 50 or 43 command of the goal, in table order, that the last layer does not meet", as it reads
pub record FirstUnmet (k : Task) (l : Layer) (n : ℕ) : Type 0 where
  pub inside : n < length k.goal
  pub unmet : holds_in l (goal_part k n) ≡ false
  pub before : (u : ℕ) → u < n → holds_in l (goal_part k u) ≡ true

-- how many bytes of a block stand from the first 50 or 43 on that the layer does not meet; 0 where it meets all
unfoldable pub unmet_size : Layer → Block → ℕ
unmet_size l [] = 0
unmet_size l (i ∷ b) = elim (holds_in l i) [ true ↦ unmet_size l b | false ↦ length (closing i ++ items_bytes b) ]
