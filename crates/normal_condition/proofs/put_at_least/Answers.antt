-- `put_at_least` meets its contract: the sum and the constant as they are. Assumes nothing.
use Rattle.integer.specs.Linear.{back}
use Rattle.model.specs.NormalForm.{normal_condition}
use Rattle.normal_condition.specs.Signs.{negate_sum_if}
use Rattle.normal_condition.proofs.put_at_least.Goals as goal

pub returns : goal.returns
unfolding normal_condition negate_sum_if
returns c = rw (back c.args.c c.ranges.c.sfits) at c.put_condition.ensures
