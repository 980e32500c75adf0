-- `too_short` meets its contract: by the bound, or by the length that a walk over no bytes gives. Assumes nothing.
use native.Mathlib.Nat.{zero-add}
use native.Mathlib.Omega.{arith}
use mathlib.Core.Path.{sym, ap, ◌∙◌}
use borrow.Author.Tests.{le-ltb}
use lib.Dec.{ltb}
use Rattle.reader.specs.Written.{head_short}
use Rattle.pddl_text.specs.Printable.{text_size}
use Rattle.pddl.proofs.too_short.Goals as goal

pub overflow_mul-blocks : goal.overflow_mul-blocks
overflow_mul-blocks c = omega (arith, head_short c.requires.read)

pub overflow_add-blocks : goal.overflow_add-blocks
overflow_add-blocks c = omega (arith, head_short c.requires.read)

pub returns-then-room-blocks : goal.returns-then-room-blocks
returns-then-room-blocks c = sym (le-ltb c.args.room _ (omega (arith, text_size c.requires, c.if-room-blocks.true)))

pub returns : goal.returns
returns c = ap (ltb c.args.room) (c.put_text.ensures.behind ∙ zero-add _)
