-- `kind_code` meets its contract.
-- Assumes nothing.
use mathlib.Core.Path.{refl}
use Rattle.model.specs.Command.{code_of}
use Rattle.command.specs.Names.{form_of}
use Rattle.command.proofs.kind_code.Goals as goal

pub returns-in-Written : goal.returns-in-Written
unfolding form_of code_of
returns-in-Written c = rw c.in-Written.is refl

pub returns-in-Normal : goal.returns-in-Normal
unfolding form_of code_of
returns-in-Normal c = rw c.in-Normal.is refl
