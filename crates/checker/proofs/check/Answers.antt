-- `check` meets its contract: a refusal of the table, one of the state, or what `follow` answers. Assumes nothing.
use Rattle.std.proofs.Common.{arith}
use Rattle.std.proofs.lemmas.Result.{err_from_is_err_and}
use Rattle.model.specs.Task.{written}
use Rattle.state.specs.Checking.{check_accepted, check_refused}
use Rattle.table.specs.Names.{wanted_of}
use Rattle.table.specs.Outlines.{head_read, head_refused}
use Rattle.transition.specs.Turns.{Read, few_props, few_vars}
use Rattle.checker.specs.Replies.{replied_other, reply_table, reply_state, check_replied}
use Rattle.checker.proofs.check.Goals as goal
use Rattle.checker.proofs.check.Goals.{In_ok-head}

pub returns-in_err-head : goal.returns-in_err-head
unfolding wanted_of
returns-in_err-head c =
    let a = c.args in
    let p = err_from_is_err_and c.from_residual.result c.from_residual.ensures.1 in
    rw (p.1, p.2)
    (check_replied a.table.now a.state.now a.list.now
    (replied_other _ (reply_table a.table.now a.state.now a.list.now (head_refused written c.outline.ensures c.in_err-head.was))))

-- the table that was read
read : (c : In_ok-head) → let h = c.in_ok-head.head in Read c.args.table.now c.outline.new.marks h.props h.vars h.moves
unfolding wanted_of
read c = head_read written c.outline.ensures c.in_ok-head.was (record { each = λ i. omega (arith, c.type_inv.table i) })

pub check-requires : goal.check-requires
check-requires c =
    let r = read (goal.at.check-requires c).In_ok-head in
    rw c.new-blocks.ensures (few_props r, few_vars r)

pub follow-requires : goal.follow-requires
follow-requires c =
    rw c.new-blocks.ensures (read (goal.at.follow-requires c).In_ok-head, check_accepted (rw c.new-blocks.ensures at c.check.ensures) c.in_ok-check.was)

pub returns-in_err-check : goal.returns-in_err-check
returns-in_err-check c =
    let a = c.args in
    let r = read (goal.at.returns-in_err-check c).In_ok-head in
    let p = err_from_is_err_and c.from_residual-in_err-check.result c.from_residual-in_err-check.ensures.1 in
    rw (p.1, p.2)
    (check_replied a.table.now a.state.now a.list.now
    (replied_other _ (reply_state r a.state.now a.list.now (check_refused (rw c.new-blocks.ensures at c.check.ensures) c.in_err-check.was))))

pub returns : goal.returns
returns c = check_replied c.args.table.now c.args.state.now c.args.list.now (rw c.new-blocks.ensures at c.follow.ensures)
