-- `lapyndo_read` meets its contract. Assumes nothing.
use mathlib.Core.Path.{ap, ◌∙◌}
use Rattle.model.specs.Exports.{read_code}
use Rattle.model.proofs.Theorems.Sizes.Answers.{read_small}
use borrow.Author.Rules.{rules}
use Rattle.engine.proofs.lapyndo_read.Goals as goal

pub read_code-requires : goal.read_code-requires
read_code-requires c = rw c.read.ensures (read_small _)

pub returns : goal.returns
returns c = c.read_code.ensures ∙ ap read_code c.read.ensures
