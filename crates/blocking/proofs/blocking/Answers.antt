-- `blocking` meets its contract. Assumes nothing.
use mathlib.Core.Path.{ap, subst, ◌∙◌}
use Rattle.std.specs.Prelude.{Ok}
use Rattle.std.proofs.lemmas.Result.{err_from_is_err_and}
use Rattle.layers.specs.Building.{IsBuilt}
use Rattle.blocking.specs.Answer.{blocked_reasoned, blocked_refused, blocked_reached, blocked_stopped, last_searchable, blocked_exhausted}
use Rattle.blocking.proofs.blocking.Goals as goal

pub returns-in_err-head : goal.returns-in_err-head
returns-in_err-head c =
    let a = c.args in
    let p = err_from_is_err_and c.from_residual.result c.from_residual.ensures.1 in
    let d = blocked_refused a.table.now a.state.now a.layers.now c.in_err-head.ensures in
    rw (p.1, p.2) (d.answers, d.leaves, blocked_reasoned d)

pub returns-in_err-build : goal.returns-in_err-build
returns-in_err-build c =
    let a = c.args in
    let p = err_from_is_err_and c.from_residual-in_err-build.result c.from_residual-in_err-build.ensures.1 in
    let r = c.in_ok-head.ensures in
    let b = subst (IsBuilt r.task _ a.layers.now _) c.in_err-build.was ((rw c.new-blocks.ensures at c.build.ensures).is r.task r.outlined r.counts) in
    let d = blocked_stopped a.table.now a.state.now a.layers.now _ r.is b in
    rw (p.1, p.2) (d.answers, d.leaves, blocked_reasoned d)

pub returns-in-Reached : goal.returns-in-Reached
returns-in-Reached c =
    let a = c.args in
    let r = c.in_ok-head.ensures in
    let b = subst (IsBuilt r.task _ a.layers.now _) (c.in_ok-build.was ∙ ap Ok c.in-Reached.is) ((rw c.new-blocks.ensures at c.build.ensures).is r.task r.outlined r.counts) in
    let d = blocked_reached a.table.now a.state.now a.layers.now _ r.is b in
    (d.answers, d.leaves, blocked_reasoned d)

pub part_offset-offset-requires : goal.part_offset-offset-requires
part_offset-offset-requires c =
    let a = c.args in
    let r = c.in_ok-head.ensures in
    let b = subst (IsBuilt r.task _ a.layers.now _) (c.in_ok-build.was ∙ ap Ok c.in-Exhausted.is) ((rw c.new-blocks.ensures at c.build.ensures).is r.task r.outlined r.counts) in
    rw c.new-blocks.ensures (last_searchable r b)

pub returns-in-Exhausted : goal.returns-in-Exhausted
returns-in-Exhausted c =
    let a = c.args in
    let r = c.in_ok-head.ensures in
    let b = subst (IsBuilt r.task _ a.layers.now _) (c.in_ok-build.was ∙ ap Ok c.in-Exhausted.is) ((rw c.new-blocks.ensures at c.build.ensures).is r.task r.outlined r.counts) in
    let d = blocked_exhausted r b (rw c.new-blocks.ensures at c.part_offset-offset.ensures) in
    (d.answers, d.leaves, blocked_reasoned d)
