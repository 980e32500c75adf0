-- `finish` meets its contract: the goal, then the end state or 13. Assumes nothing.
use Rattle.std.proofs.lemmas.Result.{err_from_is_err_and}
use Rattle.checker.specs.Replies.{goal_testable, tested_unmet, tested_yes, tested_short}
use Rattle.checker.proofs.finish.Goals as goal

pub applicable-requires : goal.applicable-requires
applicable-requires c = goal_testable c.requires

pub returns-then-not-applicable : goal.returns-then-not-applicable
returns-then-not-applicable c = tested_unmet c.applicable.ensures _ c.if-not-applicable.true

pub put_state-requires : goal.put_state-requires
put_state-requires c =
    let p = c.requires in
    record { few_props = p.few_props; few_vars = p.few_vars; state = p.over; holds = p.holds }

pub returns-in_err-length : goal.returns-in_err-length
returns-in_err-length c =
    let p = err_from_is_err_and c.from_residual.result c.from_residual.ensures.1 in
    rw (p.1, p.2) (tested_short c.applicable.ensures _ c.if-not-applicable.false c.put_state.ensures c.in_err-length.was)

pub returns : goal.returns
returns c = tested_yes c.applicable.ensures _ c.if-not-applicable.false c.put_state.ensures c.in_ok-length.was
