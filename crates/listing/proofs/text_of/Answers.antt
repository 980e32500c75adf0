-- `text_of` meets its contract: what normalise and plan ensure, by the lemmas of specs/Rooms.antt.
use Rattle.std.proofs.Common.{[], sym, ap, ◌∙◌, take, Result}
use Rattle.std.proofs.Math.Seq.{length-take-le}
use Rattle.model.specs.declared.Refusal.{Refusal}
use Rattle.model.specs.declared.PlanAnswer.{PlanAnswer}
use Rattle.model.proofs.Theorems.Campaigns.Demand2.{written_hands}
use Rattle.model.specs.Limits.{paper}
use Rattle.model.specs.Calls.{prepared}
use Rattle.model.specs.Listing.{answer_text}
use Rattle.report.specs.Plans.{planned_records}
use Rattle.listing.specs.Rooms.{printed_is, refused_room, refused_text, planned_room, planned_lists, planned_text}
use Rattle.listing.proofs.text_of.Goals as goal

-- a refusal can be printed
pub listing_text-requires : goal.listing_text-requires
listing_text-requires c = refused_room c.requires c.args.task.now c.args.state.now c.in-Err.r

-- what normalise wrote stands within its output
pub slice_bounds-plan-end : goal.slice_bounds-plan-end
slice_bounds-plan-end c = rw c.in-Ok.ensures.1 (written_hands _ _ _ (sym c.in-Ok.ensures.0)).inside

pub slice_bounds-plan-end-in-Ok : goal.slice_bounds-plan-end-in-Ok
slice_bounds-plan-end-in-Ok c = sym (length-take-le _ _ (slice_bounds-plan-end c))

-- what plan answers and writes can be printed
pub listing_text-requires-in-Ok : goal.listing_text-requires-in-Ok
listing_text-requires-in-Ok c =
    let p = c.plan-answer.ensures in
    rw p.0 (planned_room c.requires c.args.task.now c.args.state.now _ p.2)

-- normalise turns back, and its refusal is printed
pub returns-in-Err : goal.returns-in-Err
returns-in-Err c =
    printed_is c.args.task.now c.args.state.now (c.listing_text.ensures [] tt)
    (refused_text c.requires c.args.task.now c.args.state.now c.in-Err.r (sym c.in-Err.ensures.0))

-- normalise writes n bytes, plan is given those, and its answer is printed
pub returns-in-Ok : goal.returns-in-Ok
returns-in-Ok c =
    let n = c.in-Ok.n in
    let part = take n c.normalise.new.out in
    let rs = planned_records (prepared paper part c.args.state.now) in
    let p = c.plan-answer.ensures in
    let lists = planned_lists c.requires c.args.task.now c.args.state.now part p.2 in
    printed_is c.args.task.now c.args.state.now (c.listing_text-in-Ok.ensures rs (rw p.0 lists))
    (ap (λ (a : Result PlanAnswer Refusal). answer_text a rs) p.0
    ∙ planned_text c.requires c.args.task.now c.args.state.now n part (sym c.in-Ok.ensures.0) (ap (take n) c.in-Ok.ensures.1))
