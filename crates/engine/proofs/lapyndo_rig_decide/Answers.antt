-- `lapyndo_rig_decide` meets its contract. Assumes nothing.
use mathlib.Core.Path.{ap, ◌∙◌}
use Rattle.model.specs.Exports.{decide_code}
use Rattle.ceiling.proofs.Theorems.Sizes.{decide_small_under}
use borrow.Author.Rules.{rules}
use Rattle.engine.proofs.lapyndo_rig_decide.Goals as goal

pub decide_code-requires : goal.decide_code-requires
decide_code-requires c = rw c.decide.ensures.0 (decide_small_under _ _ _ _)

pub returns : goal.returns
returns c =
    let e = rw c.board.ensures at c.decide.ensures in
    (c.decide_code.ensures ∙ ap decide_code e.0, e.1)
