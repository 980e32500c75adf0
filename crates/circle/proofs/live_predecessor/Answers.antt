-- `live_predecessor` meets its contract. Assumes nothing.
use mathlib.Core.Path.{refl, ◌∙◌}
use Rattle.circle.specs.Walks.{table_edge}
use Rattle.circle.specs.Pruning.{live_predecessor}
use Rattle.circle.proofs.live_predecessor.Goals as goal

pub returns-then-edges-u : goal.returns-then-edges-u
unfolding live_predecessor table_edge
returns-then-edges-u c = rw c.if-edges-u.true refl

pub returns-else-edges-u : goal.returns-else-edges-u
unfolding live_predecessor table_edge
returns-else-edges-u c = c.if-edges-u.false ∙ rw c.if-edges-u.false refl
