-- `decided_and_planned` meets its contract. Assumes nothing.
use mathlib.Core.Path.{◌∙◌}
use Rattle.campaign.specs.Campaign.{plan_after, memory_after, out_after}
use borrow.Author.Rules.{rules}
use Rattle.campaign.proofs.decided_and_planned.Goals as goal

pub returns : goal.returns
returns c = (
  c.decide-decision.ensures.0,
  c.plan-plan.ensures.0 ∙ plan_after _ _ _ _ _ c.decide-decision.ensures.1,
  c.plan-plan.ensures.1 ∙ memory_after _ _ _ _ c.args.out.now c.decide-decision.ensures.1,
  c.plan-plan.ensures.2 ∙ out_after _ _ _ _ _ c.decide-decision.ensures.1,
)
