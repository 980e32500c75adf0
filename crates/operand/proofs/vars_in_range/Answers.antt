-- `vars_in_range` meets its contract, by the form. Assumes nothing.
use mathlib.Core.Path.{refl}
use borrow.Author.Tests.{lt-leb, le-leb}
use Rattle.model.specs.Limits.{paper, vars_in_range}
use Rattle.command.specs.Names.{form_of}
use Rattle.operand.proofs.vars_in_range.Goals as goal

pub returns-in-Written : goal.returns-in-Written
unfolding form_of vars_in_range paper
returns-in-Written c = rw c.in-Written.is refl

pub returns-then-n-le32 : goal.returns-then-n-le32
unfolding form_of vars_in_range paper
returns-then-n-le32 c = rw (c.in-Normal.is, le-leb c.args.n 32 c.if-n-le32.true) refl

pub returns-else-n-le32 : goal.returns-else-n-le32
unfolding form_of vars_in_range paper
returns-else-n-le32 c = rw (c.in-Normal.is, lt-leb c.args.n 32 c.if-n-le32.false) refl
