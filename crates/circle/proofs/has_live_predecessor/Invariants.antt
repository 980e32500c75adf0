-- `has_live_predecessor` meets its contract. No variable before u is alive with an edge.
-- Assumes nothing.
use mathlib.Core.Path.{◌≡◌}
use mathlib.Core.Bool.{false}
use Rattle.model.specs.Lists.{any_below}
use Rattle.circle.specs.Pruning.{live_predecessor}
use Rattle.circle.proofs.has_live_predecessor.Given as goal

abbrev pub invariant-loop-u : goal.invariant-loop-u
invariant-loop-u l = any_below (live_predecessor l.edges l.alive l.var) l.u ≡ false
