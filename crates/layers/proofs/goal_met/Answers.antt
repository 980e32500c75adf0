-- `goal_met` meets its contract. Assumes nothing.
use Rattle.layers.specs.Goal.{goal_part, goal_testable, is_met}
use Rattle.layers.proofs.goal_met.Goals as goal

pub part-requires : goal.part-requires
part-requires c = goal_part c.requires

pub usable-requires : goal.usable-requires
usable-requires c = goal_testable c.requires c.part.ensures.0

pub returns : goal.returns
returns c = is_met c.part.ensures.0 c.usable.ensures
