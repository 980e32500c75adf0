-- `lapyndo_decide` meets its contract. Assumes nothing.
use mathlib.Core.Path.{ap, ◌∙◌}
use Rattle.model.specs.Exports.{decide_code}
use Rattle.model.proofs.Theorems.Sizes.Answers.{decide_small}
use borrow.Author.Rules.{rules}
use Rattle.engine.proofs.lapyndo_decide.Goals as goal

pub decide_code-requires : goal.decide_code-requires
decide_code-requires c = rw c.decide.ensures.0 (decide_small _ _ _)

pub returns : goal.returns
returns c = (c.decide_code.ensures ∙ ap decide_code c.decide.ensures.0, c.decide.ensures.1)
