-- `variable` meets its contract. Assumes nothing.
use native.Mathlib.Omega.{arith}
use Rattle.block.specs.Items.{term_room, term_var}
use Rattle.block.proofs.variable.Goals as goal

pub overflow_add-result : goal.overflow_add-result
overflow_add-result c = omega (arith, term_room c.requires.terms)

pub bounds-part-at : goal.bounds-part-at
bounds-part-at c = omega (arith, term_room c.requires.terms)

pub returns : goal.returns
returns c = record { is = λ k n t ts h. term_var h }
