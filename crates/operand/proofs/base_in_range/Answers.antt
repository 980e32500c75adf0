-- `base_in_range` meets its contract.
-- Assumes nothing.
use mathlib.Core.Path.{◌≡◌, ◌∙◌}
use lib.IntN.{pos, negsuc}
use Rattle.model.specs.Limits.{paper}
use Rattle.integer.specs.Linear.{back}
use Rattle.operand.specs.Ranges.{between, base_between}
use Rattle.operand.proofs.base_in_range.Goals as goal

pub returns : goal.returns
unfolding paper
returns c =
    let told : c.between.result ≡ between (negsuc 999999) c.args.base (pos 1000000) = rw (back c.args.base c.ranges.base.sfits) at c.between.ensures in
    told ∙ base_between c.args.base
