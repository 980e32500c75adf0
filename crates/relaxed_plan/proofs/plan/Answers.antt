-- `plan` meets its contract. Assumes nothing.
use mathlib.Core.Path.{ap, subst, ◌∙◌}
use Rattle.std.specs.Prelude.{Ok}
use Rattle.std.proofs.lemmas.Result.{err_from_is_err_and}
use Rattle.layers.specs.Building.{IsBuilt}
use Rattle.relaxed_plan.specs.Answer.{built_stored, planned_refused, planned_exhausted, planned_stopped, planned_reached, planned_within}
use Rattle.relaxed_plan.proofs.plan.Goals as goal

pub returns-in_err-head : goal.returns-in_err-head
returns-in_err-head c =
    let a = c.args in
    let p = err_from_is_err_and c.from_residual.result c.from_residual.ensures.1 in
    let d = planned_refused a.table.now a.state.now a.layers.now a.out.now c.in_err-head.ensures in
    rw (p.1, p.2) (d.answers, d.leaves, d.writes_is, planned_within d)

pub returns-in_err-layer : goal.returns-in_err-layer
returns-in_err-layer c =
    let a = c.args in
    let p = err_from_is_err_and c.from_residual-in_err-layer.result c.from_residual-in_err-layer.ensures.1 in
    let r = c.in_ok-head.ensures in
    let b = subst (IsBuilt r.task _ a.layers.now _) c.in_err-layer.was ((rw c.new-blocks.ensures at c.build.ensures).is r.task r.outlined r.counts) in
    let d = planned_stopped a.table.now a.state.now a.layers.now c.build.new.layers a.out.now r.is b in
    rw (p.1, p.2) (d.answers, d.leaves, d.writes_is, planned_within d)

pub extract-requires : goal.extract-requires
extract-requires c =
    let a = c.args in
    let r = c.in_ok-head.ensures in
    let b = subst (IsBuilt r.task _ a.layers.now _) (c.in_ok-layer.was ∙ ap Ok c.in-Reached.is) ((rw c.new-blocks.ensures at c.build.ensures).is r.task r.outlined r.counts) in
    rw c.new-blocks.ensures (built_stored r b)

pub returns-in-Reached : goal.returns-in-Reached
returns-in-Reached c =
    let a = c.args in
    let r = c.in_ok-head.ensures in
    let b = subst (IsBuilt r.task _ a.layers.now _) (c.in_ok-layer.was ∙ ap Ok c.in-Reached.is) ((rw c.new-blocks.ensures at c.build.ensures).is r.task r.outlined r.counts) in
    let d = planned_reached a.out.now r b ((rw c.new-blocks.ensures at c.extract.ensures) (built_stored r b)) in
    (d.answers, d.leaves, d.writes_is, planned_within d)

pub returns-in-Exhausted : goal.returns-in-Exhausted
returns-in-Exhausted c =
    let a = c.args in
    let r = c.in_ok-head.ensures in
    let b = subst (IsBuilt r.task _ a.layers.now _) (c.in_ok-layer.was ∙ ap Ok c.in-Exhausted.is) ((rw c.new-blocks.ensures at c.build.ensures).is r.task r.outlined r.counts) in
    let d = planned_exhausted a.table.now a.state.now a.layers.now c.build.new.layers a.out.now r.is b in
    (d.answers, d.leaves, d.writes_is, planned_within d)
