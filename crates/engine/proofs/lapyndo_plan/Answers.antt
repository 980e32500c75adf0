-- `lapyndo_plan` meets its contract. Assumes nothing.
use mathlib.Core.Path.{ap, ◌∙◌}
use Rattle.std.specs.Prelude.{Result}
use Rattle.model.specs.declared.Refusal.{Refusal}
use Rattle.model.specs.declared.PlanAnswer.{PlanAnswer}
use Rattle.model.specs.Exports.{plan_code, plan_record_count, plan_first_moves}
use Rattle.model.proofs.Theorems.Sizes.Answers.{plan_small}
use borrow.Author.Rules.{rules}
use Rattle.engine.proofs.lapyndo_plan.Goals as goal

pub plan_code-requires : goal.plan_code-requires
plan_code-requires c = rw c.plan.ensures.0 (plan_small _ _ _ _)

pub returns : goal.returns
returns c = (
  c.plan_code.ensures.0 ∙ ap plan_code c.plan.ensures.0,
  c.plan.ensures.1,
  c.plan.ensures.2,
  c.plan_code.ensures.1 ∙ ap (λ (a : Result PlanAnswer Refusal). plan_record_count a c.args.records.now) c.plan.ensures.0,
  c.plan_code.ensures.2 ∙ ap (λ (a : Result PlanAnswer Refusal). plan_first_moves a c.args.first.now) c.plan.ensures.0,
)
