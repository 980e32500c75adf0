-- "A next layer equal to layer t": the comparison over the table's propositions and variables decides that the two layers are
-- equal everywhere, for a move names no others. Assumes nothing.
use Rattle.std.specs.Prelude.{ℕ, ◌<◌, ◌≡◌}
use Rattle.model.specs.Task.{Task}
use Rattle.model.specs.Layer.{Layer}

-- the two layers have the same propositions and the same values, of those that the table has
pub record Agree (k : Task) (l m : Layer) : Type 0 where
  pub props : (p : ℕ) → p < k.props → l.has p ≡ m.has p
  pub vars : (v : ℕ) → v < k.vars → l.val v ≡ m.val v
