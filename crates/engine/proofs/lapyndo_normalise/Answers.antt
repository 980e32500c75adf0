-- `lapyndo_normalise` meets its contract. Assumes nothing.
use native.Mathlib.Omega.{arith}
use mathlib.Core.Path.{ap, ◌∙◌}
use Rattle.model.specs.Limits.{paper}
use Rattle.model.specs.Calls.{normalise_answer}
use Rattle.model.specs.Exports.{write_code}
use Rattle.model.proofs.Theorems.Sizes.Answers.{write_wider, normalise_small}
use borrow.Author.Rules.{rules}
use Rattle.engine.proofs.lapyndo_normalise.Goals as goal

pub write_code-requires : goal.write_code-requires
write_code-requires c = rw c.normalise.ensures.0 (write_wider (normalise_answer paper _ _) (omega arith) (normalise_small _ _))

pub returns : goal.returns
returns c = (c.write_code.ensures ∙ ap write_code c.normalise.ensures.0, c.normalise.ensures.1)
