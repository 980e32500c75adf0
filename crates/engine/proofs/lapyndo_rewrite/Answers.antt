-- `lapyndo_rewrite` meets its contract. Assumes nothing.
use native.Mathlib.Omega.{arith}
use mathlib.Core.Path.{ap, ◌∙◌}
use Rattle.model.specs.Limits.{paper}
use Rattle.model.specs.Rewrite.{rewrite_answer}
use Rattle.model.specs.Exports.{write_code}
use Rattle.model.proofs.Theorems.Sizes.Answers.{write_wider}
use Rattle.model.proofs.Theorems.Rewriting.Sizes.{rewrite_small}
use borrow.Author.Rules.{rules}
use Rattle.engine.proofs.lapyndo_rewrite.Goals as goal

pub write_code-requires : goal.write_code-requires
write_code-requires c = rw c.rewrite.ensures.0 (write_wider (rewrite_answer paper _ _) (omega arith) (rewrite_small _ _))

pub returns : goal.returns
returns c = (c.write_code.ensures ∙ ap write_code c.rewrite.ensures.0, c.rewrite.ensures.1)
