-- `weight_in_range` meets its contract, by the form.
-- Assumes nothing.
use mathlib.Core.Path.{◌∙◌}
use Rattle.model.specs.Limits.{paper}
use Rattle.integer.specs.Linear.{back}
use Rattle.command.specs.Names.{form_of}
use Rattle.operand.specs.Ranges.{weight_written, weight_normal}
use Rattle.operand.proofs.weight_in_range.Goals as goal

pub returns-in-Written : goal.returns-in-Written
unfolding form_of paper
returns-in-Written c = rw c.in-Written.is ((rw (back c.args.weight c.ranges.weight.sfits) at c.between.ensures) ∙ weight_written c.args.weight)

pub returns-in-Normal : goal.returns-in-Normal
unfolding form_of paper
returns-in-Normal c = rw c.in-Normal.is ((rw (back c.args.weight c.ranges.weight.sfits) at c.between-in-Normal.ensures) ∙ weight_normal c.args.weight)
