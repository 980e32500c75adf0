-- `demand` meets its contract. Assumes nothing.
use mathlib.Core.Path.{◌∙◌}
use Rattle.integer.specs.Linear.{back}
use Rattle.achievers.specs.Search.{demand_first, demand_other}
use Rattle.achievers.proofs.demand.Goals as goal

pub returns-then-kind-eq0 : goal.returns-then-kind-eq0
returns-then-kind-eq0 c = back c.args.target c.ranges.target.sfits ∙ demand_first _ c.args.target c.if-kind-eq0.true

pub returns : goal.returns
returns c = demand_other _ _ c.if-kind-eq0.false
