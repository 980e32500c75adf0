-- `lapyndo_rig_campaign` meets its contract. Assumes nothing.
use mathlib.Core.Path.{ap, ◌∙◌}
use Rattle.std.specs.Prelude.{Result}
use Rattle.model.specs.declared.Refusal.{Refusal}
use Rattle.model.specs.declared.PlanAnswer.{PlanAnswer}
use Rattle.model.specs.Exports.{decide_code, plan_code, plan_record_count, plan_first_moves}
use Rattle.ceiling.proofs.Theorems.Sizes.{campaign_decision_small_under, campaign_plan_small_under}
use Rattle.ceiling.proofs.Theorems.EndToEnd.{promise_under}
use borrow.Author.Rules.{rules}
use Rattle.engine.proofs.lapyndo_rig_campaign.Goals as goal

pub decide_code-requires : goal.decide_code-requires
decide_code-requires c = rw c.rig_campaign-answers.ensures.decision (campaign_decision_small_under _ _ _ _ _)

pub plan_code-requires : goal.plan_code-requires
plan_code-requires c = rw c.rig_campaign-answers.ensures.plan (campaign_plan_small_under _ _ _ _ _ _)

pub returns : goal.returns
returns c =
    let board = c.board.ensures in
    let e = c.rig_campaign-answers.ensures in
    let decision = rw board at e.decision in
    let plan = rw board at e.plan in
    let list = rw board at e.list in
    let a = c.args in (
      c.plan_code.ensures.0 ∙ ap plan_code plan,
      c.decide_code.ensures ∙ ap decide_code decision,
      c.plan_code.ensures.1 ∙ ap (λ (p : Result PlanAnswer Refusal). plan_record_count p a.records.now) plan,
      c.plan_code.ensures.2 ∙ ap (λ (p : Result PlanAnswer Refusal). plan_first_moves p a.first.now) plan,
      rw board at e.normal,
      rw board at e.memory,
      list,
      rw list (promise_under _ _ _ _ _ _),
    )
