-- `lapyndo_rig_normalise` meets its contract. Assumes nothing.
use mathlib.Core.Path.{ap, ◌∙◌}
use native.Mathlib.Omega.{arith}
use Rattle.model.specs.Limits.{paper}
use Rattle.ceiling.specs.Ceiling.{normalise_answer_under}
use Rattle.model.specs.Exports.{write_code}
use Rattle.model.proofs.Theorems.Sizes.Answers.{write_wider}
use Rattle.ceiling.proofs.Theorems.Sizes.{normalise_small_under}
use borrow.Author.Rules.{rules}
use Rattle.engine.proofs.lapyndo_rig_normalise.Goals as goal

pub write_code-requires : goal.write_code-requires
write_code-requires c = rw c.normalise.ensures.0 (write_wider (normalise_answer_under _ paper _ _) (omega arith) (normalise_small_under _ _ _))

pub returns : goal.returns
returns c =
    let e = rw c.board.ensures at c.normalise.ensures in
    (c.write_code.ensures ∙ ap write_code e.0, e.1)
