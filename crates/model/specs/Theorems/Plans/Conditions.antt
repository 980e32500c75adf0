-- The wants of a move or the goal, and of an effect's value: they can be had in a layer where the conditions hold, and every
-- state at least as high as the first that meets them has the conditions and the value (document 01, "Plan"). Assumes nothing.
use Rattle.std.specs.Prelude.{ℕ, ◌<◌, T}
use Rattle.std.proofs.Math.IntN.{ℤ}
use Rattle.model.specs.Layer.{Layer, reaches}
use Rattle.model.specs.Plan.{Wants}
use Rattle.model.specs.Theorems.Plans.Targets.{Each}

-- each want names a proposition or a variable of the table, and the layer has it
pub record Had (props vars : ℕ) (l : Layer) (w : Wants) : Type 0 where
  pub each : Each (λ (p : ℕ). (p < props) × T (l.has p)) (λ (v : ℕ) (z : ℤ). (v < vars) × T (reaches (l.val v) z)) w
