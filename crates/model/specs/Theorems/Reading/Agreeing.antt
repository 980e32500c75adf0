-- A task within the limits looks at its own propositions and variables alone: states that agree on these meet the same conditions,
-- real moves keep them so, and the same lists solve the task from both. They are the same to every call, since they have the same bytes.
-- Assumes nothing.
use Rattle.std.specs.Prelude.{ℕ, ◌<◌, ◌≡◌}
use Rattle.model.specs.Move.{State}

-- the same truths below props, the same values below vars
pub record AgreeBelow (props vars : ℕ) (s t : State) : Type 0 where
  pub has : (p : ℕ) → p < props → s.has p ≡ t.has p
  pub val : (v : ℕ) → v < vars → s.val v ≡ t.val v
