-- `lapyndo_rig_plan` meets its contract. Assumes nothing.
use mathlib.Core.Path.{ap, ◌∙◌}
use Rattle.std.specs.Prelude.{Result}
use Rattle.model.specs.declared.Refusal.{Refusal}
use Rattle.model.specs.declared.PlanAnswer.{PlanAnswer}
use Rattle.model.specs.Exports.{plan_code, plan_record_count, plan_first_moves}
use Rattle.ceiling.proofs.Theorems.Sizes.{plan_small_under}
use borrow.Author.Rules.{rules}
use Rattle.engine.proofs.lapyndo_rig_plan.Goals as goal

pub plan_code-requires : goal.plan_code-requires
plan_code-requires c = rw c.plan.ensures.0 (plan_small_under _ _ _ _ _)

pub returns : goal.returns
returns c =
    let e = rw c.board.ensures at c.plan.ensures in
    let a = c.args in (
      c.plan_code.ensures.0 ∙ ap plan_code e.0,
      e.1,
      e.2,
      c.plan_code.ensures.1 ∙ ap (λ (p : Result PlanAnswer Refusal). plan_record_count p a.records.now) e.0,
      c.plan_code.ensures.2 ∙ ap (λ (p : Result PlanAnswer Refusal). plan_first_moves p a.first.now) e.0,
    )
