-- `listing_text` meets its contract, one case for each kind of answer. Assumes nothing.
use mathlib.Core.Path.{ap, ◌∙◌}
use Rattle.std.specs.Prelude.{Ok}
use Rattle.report.specs.Answer.{plan_listable, records_short, printed_plan, printed_no_plan, printed_refusal}
use Rattle.report.proofs.listing_text.Goals as goal

pub put_records-requires : goal.put_records-requires
put_records-requires c =
    let same = rw c.in-Ok-Plan.is at c.in-Ok-Plan.field-0-is in
    let is = c.in-Ok-Plan.is ∙ ap Ok same in
    (plan_listable c.requires is, records_short c.requires is c.put_plan-next.ensures.0 c.put_plan-next.ensures.1)

pub returns-in-Ok-Plan : goal.returns-in-Ok-Plan
returns-in-Ok-Plan c =
    let same = rw c.in-Ok-Plan.is at c.in-Ok-Plan.field-0-is in
    printed_plan c.requires (c.in-Ok-Plan.is ∙ ap Ok same) c.put_plan-next.ensures.1 c.put_plan-next.ensures.0 c.put_records.ensures

pub returns-in-Ok-NoPlan : goal.returns-in-Ok-NoPlan
returns-in-Ok-NoPlan c rs l =
    let same = rw c.in-Ok-NoPlan.is at c.in-Ok-NoPlan.field-0-is in
    printed_no_plan c.requires (c.in-Ok-NoPlan.is ∙ ap Ok same) c.put_no_plan.ensures.0 c.put_no_plan.ensures.1 rs

pub returns-in-Err : goal.returns-in-Err
returns-in-Err c rs l = printed_refusal c.requires c.in-Err.is c.put_refusal.ensures.0 c.put_refusal.ensures.1 rs
