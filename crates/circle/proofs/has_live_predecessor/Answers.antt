-- `has_live_predecessor` meets its contract. No variable before u is alive with an edge.
-- Assumes nothing.
use mathlib.Core.Path.{refl, sym, ◌∙◌}
use Rattle.model.specs.Lists.{any_below}
use Rattle.circle.specs.Pruning.{none_all, none_more, some_found}
use Rattle.circle.proofs.has_live_predecessor.Goals as goal

pub loop-u-init : goal.loop-u-init
unfolding any_below
loop-u-init c = refl

pub returns-then-live_predecessor : goal.returns-then-live_predecessor
returns-then-live_predecessor c = some_found _ _ _ c.loop-u-test.true (sym c.live_predecessor.ensures ∙ c.if-live_predecessor.true)

pub loop-u-preserved : goal.loop-u-preserved
loop-u-preserved c = none_more _ _ c.loop-u.invariant (sym c.live_predecessor.ensures ∙ c.if-live_predecessor.false)

pub returns : goal.returns
returns c = none_all _ _ _ c.loop-u.invariant c.loop-u.auto.u-end c.loop-u-test.false
