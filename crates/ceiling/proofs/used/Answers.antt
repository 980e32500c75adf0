-- `used` meets its contract. Assumes nothing.
use mathlib.Core.Path.{refl}
use borrow.Author.Tests.{lt-ltb, le-ltb}
use Rattle.ceiling.specs.Numbers.{fewer}
use Rattle.ceiling.proofs.used.Goals as goal

pub returns-then-numbers-c : goal.returns-then-numbers-c
unfolding fewer
returns-then-numbers-c c = rw (lt-ltb _ _ c.if-numbers-c.true) refl

pub returns : goal.returns
unfolding fewer
returns c = rw (le-ltb _ _ c.if-numbers-c.false) refl
