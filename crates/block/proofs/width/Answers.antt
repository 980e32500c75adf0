-- `width` meets its contract. Assumes nothing.
use mathlib.Core.Path.{refl}
use borrow.Author.Tests.{ne_eqb}
use Rattle.block.specs.Streams.{width_by}
use Rattle.block.proofs.width.Goals as goal

pub returns-in-87 : goal.returns-in-87
unfolding width_by
returns-in-87 c = rw c.in-87.is refl

pub returns-in-67 : goal.returns-in-67
unfolding width_by
returns-in-67 c = rw c.in-67.is refl

pub returns-in-70 : goal.returns-in-70
unfolding width_by
returns-in-70 c = rw c.in-70.is refl

pub returns-in_default : goal.returns-in_default
unfolding width_by
returns-in_default c =
    let r = c.in_default.in_default-own.rest in
    rw (ne_eqb _ 0x57 r.0.0.1, ne_eqb _ 0x43 r.0.1, ne_eqb _ 0x46 r.1) refl
