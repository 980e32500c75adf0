-- `bound_in_range` meets its contract, by the form.
-- Assumes nothing.
use mathlib.Core.Path.{◌∙◌}
use Rattle.model.specs.Limits.{paper}
use Rattle.integer.specs.Linear.{back}
use Rattle.command.specs.Names.{form_of}
use Rattle.operand.specs.Ranges.{bound_written, bound_normal}
use Rattle.operand.proofs.bound_in_range.Goals as goal

pub returns-in-Written : goal.returns-in-Written
unfolding form_of paper
returns-in-Written c = rw c.in-Written.is ((rw (back c.args.bound c.ranges.bound.sfits) at c.between.ensures) ∙ bound_written c.args.bound)

pub returns-in-Normal : goal.returns-in-Normal
unfolding form_of paper
returns-in-Normal c = rw c.in-Normal.is ((rw (back c.args.bound c.ranges.bound.sfits) at c.between-in-Normal.ensures) ∙ bound_normal c.args.bound)
