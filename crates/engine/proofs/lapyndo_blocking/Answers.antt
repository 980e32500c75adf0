-- `lapyndo_blocking` meets its contract. Assumes nothing.
use mathlib.Core.Path.{ap, ◌∙◌}
use Rattle.model.specs.Exports.{blocking_code}
use Rattle.model.proofs.Theorems.Sizes.Answers.{blocking_small}
use borrow.Author.Rules.{rules}
use Rattle.engine.proofs.lapyndo_blocking.Goals as goal

pub blocking_code-requires : goal.blocking_code-requires
blocking_code-requires c = rw c.blocking.ensures.0 (blocking_small _ _ _)

pub returns : goal.returns
returns c = (c.blocking_code.ensures ∙ ap blocking_code c.blocking.ensures.0, c.blocking.ensures.1)
