-- `lapyndo_rig_step` meets its contract. Assumes nothing.
use mathlib.Core.Path.{ap, ◌∙◌}
use native.Mathlib.Omega.{arith}
use Rattle.model.specs.Limits.{paper}
use Rattle.ceiling.specs.Ceiling.{step_answer_under}
use Rattle.model.specs.Exports.{write_code}
use Rattle.model.proofs.Theorems.Sizes.Answers.{write_wider}
use Rattle.ceiling.proofs.Theorems.Sizes.{step_small_under}
use borrow.Author.Rules.{rules}
use Rattle.engine.proofs.lapyndo_rig_step.Goals as goal

pub write_code-requires : goal.write_code-requires
write_code-requires c = rw c.step.ensures.0 (write_wider (step_answer_under _ paper _ _ _ _) (omega arith) (step_small_under _ _ _ _ _))

pub returns : goal.returns
returns c =
    let e = rw c.board.ensures at c.step.ensures in
    (c.write_code.ensures ∙ ap write_code e.0, e.1)
