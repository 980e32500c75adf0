-- `lapyndo_check` meets its contract. Assumes nothing.
use mathlib.Core.Path.{ap, ◌∙◌}
use borrow.Author.Rules.{rules}
use Rattle.std.specs.Prelude.{Result}
use Rattle.schedule.specs.declared.CheckAnswer.{CheckAnswer}
use Rattle.schedule.specs.Exports.{check_code, check_index}
use Rattle.schedule.proofs.Theorems.Codes.{check_small}
use Rattle.engine.proofs.lapyndo_check.Goals as goal
use Rattle.model.specs.declared.Refusal.{Refusal}

pub check_code-requires : goal.check_code-requires
check_code-requires c = rw c.check.ensures.0 (check_small _ _ _ _)

pub returns : goal.returns
returns c =
    let a = c.args in (
      c.check_code.ensures.0 ∙ ap check_code c.check.ensures.0,
      c.check.ensures.1,
      c.check_code.ensures.1 ∙ ap (λ (r : Result CheckAnswer Refusal). check_index r a.index.now) c.check.ensures.0,
    )
