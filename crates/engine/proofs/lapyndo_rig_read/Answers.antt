-- `lapyndo_rig_read` meets its contract. Assumes nothing.
use mathlib.Core.Path.{ap, ◌∙◌}
use Rattle.model.specs.Exports.{read_code}
use Rattle.ceiling.proofs.Theorems.Sizes.{read_small_under}
use borrow.Author.Rules.{rules}
use Rattle.engine.proofs.lapyndo_rig_read.Goals as goal

pub read_code-requires : goal.read_code-requires
read_code-requires c = rw c.read.ensures (read_small_under _ _)

pub returns : goal.returns
returns c = rw c.board.ensures at (c.read_code.ensures ∙ ap read_code c.read.ensures)
