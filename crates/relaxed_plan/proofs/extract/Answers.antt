-- `extract` meets its contract. Assumes nothing.
use native.Mathlib.Omega.{arith}
use mathlib.Core.Path.{refl}
use Rattle.model.proofs.Theorems.Sizes.Plans.{records_most}
use Rattle.stored_layer.specs.Stored.{stored_vars, stored_room, stored_start}
use Rattle.relaxed_plan.specs.Answer.{extracted_short, extracted_written}
use Rattle.passes.specs.Passes.{walk_goal, walk_begun}
use Rattle.passes.specs.Keeping.{kept_copied}
use Rattle.relaxed_plan.proofs.extract.Goals as goal

pub read_row-requires : goal.read_row-requires
read_row-requires c =
    let x = c.requires in
    (omega (arith, stored_room x.memory {t = 0} (omega arith)), stored_vars x.memory, refl)

pub want_goal-wants-requires : goal.want_goal-wants-requires
want_goal-wants-requires c = let x = c.requires in walk_goal x (stored_start x.memory c.read_row.ensures)

pub survey-summary-requires : goal.survey-summary-requires
survey-summary-requires c =
    let x = c.requires in
    let row = stored_start x.memory c.read_row.ensures in
    (walk_begun x row (c.want_goal-wants.ensures (walk_goal x row)), refl)

pub overflow_mul-records : goal.overflow_mul-records
overflow_mul-records c =
    let x = c.requires in
    let row = stored_start x.memory c.read_row.ensures in
    omega (arith, (c.survey-summary.ensures (walk_begun x row (c.want_goal-wants.ensures (walk_goal x row)))).0.total, records_most x.memory.ok x.start c.args.m x.memory.bounded)

pub returns-then-out-records : goal.returns-then-out-records
returns-then-out-records c x =
    let a = c.args in
    let row = stored_start x.memory c.read_row.ensures in
    let k = (c.survey-summary.ensures (walk_begun x row (c.want_goal-wants.ensures (walk_goal x row)))).0 in
    rw c.at.ensures (extracted_short x.task x.start a.m a.out.now k.total k.helpful c.if-out-records.true)

pub write_plan-requires : goal.write_plan-requires
write_plan-requires c =
    let x = c.requires in
    let row = stored_start x.memory c.read_row.ensures in
    let b = walk_begun x row (c.want_goal-wants.ensures (walk_goal x row)) in
    record { begun = b; total = (c.survey-summary.ensures b).0.total; room = c.if-out-records.false }

pub returns-then-records-le-KEPT : goal.returns-then-records-le-KEPT
returns-then-records-le-KEPT c x =
    let a = c.args in
    let row = stored_start x.memory c.read_row.ensures in
    let k = c.survey-summary.ensures (walk_begun x row (c.want_goal-wants.ensures (walk_goal x row))) in
    extracted_written x.task x.start a.m a.out.now k.0.total k.0.helpful c.if-out-records.false
    (kept_copied x a.out.now c.if-records-le-KEPT.true k.0.total c.if-out-records.false k.1 c.copy.ensures)

pub returns-else-records-le-KEPT : goal.returns-else-records-le-KEPT
returns-else-records-le-KEPT c x =
    let a = c.args in
    let row = stored_start x.memory c.read_row.ensures in
    let b = walk_begun x row (c.want_goal-wants.ensures (walk_goal x row)) in
    let k = (c.survey-summary.ensures b).0 in
    extracted_written x.task x.start a.m a.out.now k.total k.helpful c.if-out-records.false
    (c.write_plan.ensures (record { begun = b; total = k.total; room = c.if-out-records.false }))
