-- `comparison_in_range` meets its contract, by the form.
-- Assumes nothing.
use mathlib.Core.Path.{refl}
use Rattle.model.specs.Limits.{comparison_in_range}
use Rattle.command.specs.Names.{form_of}
use Rattle.operand.proofs.comparison_in_range.Goals as goal

pub returns-in-Written : goal.returns-in-Written
unfolding form_of comparison_in_range
returns-in-Written c = rw c.in-Written.is refl

pub returns-in-Normal : goal.returns-in-Normal
unfolding form_of comparison_in_range
returns-in-Normal c = rw c.in-Normal.is refl
