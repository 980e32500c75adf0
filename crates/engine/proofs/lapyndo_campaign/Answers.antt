-- `lapyndo_campaign` meets its contract. Assumes nothing.
use mathlib.Core.Path.{ap, ◌∙◌}
use Rattle.std.specs.Prelude.{Result}
use Rattle.model.specs.declared.Refusal.{Refusal}
use Rattle.model.specs.declared.PlanAnswer.{PlanAnswer}
use Rattle.model.specs.Exports.{decide_code, plan_code, plan_record_count, plan_first_moves}
use Rattle.model.proofs.Theorems.Campaigns.OneCall.{campaign_promise}
use Rattle.model.proofs.Theorems.Sizes.Answers.{campaign_decision_small, campaign_plan_small}
use borrow.Author.Rules.{rules}
use Rattle.engine.proofs.lapyndo_campaign.Goals as goal

pub decide_code-requires : goal.decide_code-requires
decide_code-requires c = rw c.campaign-answers.ensures.decision (campaign_decision_small _ _ _ _)

pub plan_code-requires : goal.plan_code-requires
plan_code-requires c = rw c.campaign-answers.ensures.plan (campaign_plan_small _ _ _ _ _)

pub returns : goal.returns
returns c = (
  c.plan_code.ensures.0 ∙ ap plan_code c.campaign-answers.ensures.plan,
  c.decide_code.ensures ∙ ap decide_code c.campaign-answers.ensures.decision,
  c.plan_code.ensures.1 ∙ ap (λ (a : Result PlanAnswer Refusal). plan_record_count a c.args.records.now) c.campaign-answers.ensures.plan,
  c.plan_code.ensures.2 ∙ ap (λ (a : Result PlanAnswer Refusal). plan_first_moves a c.args.first.now) c.campaign-answers.ensures.plan,
  c.campaign-answers.ensures.normal,
  c.campaign-answers.ensures.memory,
  c.campaign-answers.ensures.list,
  rw c.campaign-answers.ensures.list (campaign_promise _ _ _ _ _),
)
