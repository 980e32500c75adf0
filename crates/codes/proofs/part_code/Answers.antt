-- `part_code` meets its contract. Assumes nothing.
use mathlib.Core.Path.{refl}
use borrow.Author.Tests.{eq-eqb, ne_eqb}
use Rattle.codes.specs.Parts.{part_code}
use Rattle.codes.proofs.part_code.Goals as goal

pub returns-then-number-eq0 : goal.returns-then-number-eq0
unfolding part_code
returns-then-number-eq0 c = rw (eq-eqb c.args.number 0 c.if-number-eq0.true, part_code) refl

pub returns-else-number-eq0 : goal.returns-else-number-eq0
unfolding part_code
returns-else-number-eq0 c = rw (ne_eqb c.args.number 0 c.if-number-eq0.false, part_code) refl
