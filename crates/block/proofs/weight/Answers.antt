-- `weight` meets its contract. Assumes nothing.
use native.Mathlib.Omega.{arith}
use mathlib.Core.Path.{◌∙◌}
use Rattle.integer.specs.Linear.{back}
use Rattle.block.specs.Items.{term_room, read_weight}
use Rattle.block.proofs.weight.Goals as goal

pub overflow_add-at : goal.overflow_add-at
overflow_add-at c = omega (arith, term_room c.requires.terms)

pub i16_at-requires : goal.i16_at-requires
i16_at-requires c = omega (arith, term_room c.requires.terms)

pub returns : goal.returns
returns c = read_weight c.requires (back c.i16_at.result c.i16_at.type_inv ∙ c.i16_at.ensures.0)
