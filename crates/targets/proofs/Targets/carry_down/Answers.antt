-- `Targets::carry_down` meets its contract: the wants are kept where they stand. Assumes nothing.
use Rattle.targets.specs.Carrying.{carries}
use Rattle.targets.proofs.Targets.carry_down.Goals as goal

pub returns : goal.returns
returns c x = carries x c.keep_props.ensures (c.keep_targets.ensures x.over.val x.values)
