-- `step` meets its contract: a refusal of the table, one of the state, or what `choose` answers. Assumes nothing.
use Rattle.std.proofs.Common.{arith}
use Rattle.std.proofs.lemmas.Result.{err_from_is_err_and}
use Rattle.model.specs.Task.{written}
use Rattle.state.specs.Checking.{check_accepted, check_refused}
use Rattle.table.specs.Names.{wanted_of}
use Rattle.table.specs.Outlines.{head_read, head_refused}
use Rattle.output.specs.Answers.{answered_refused}
use Rattle.transition.specs.Turns.{Read, few_props, few_vars}
use Rattle.transition.specs.Steps.{step_answered, step_table_refused, step_state_refused}
use Rattle.transition.proofs.step.Goals as goal
use Rattle.transition.proofs.step.Goals.{In_ok-head}

pub returns-in_err-head : goal.returns-in_err-head
unfolding wanted_of
returns-in_err-head c =
    let a = c.args in
    let p = err_from_is_err_and c.from_residual.result c.from_residual.ensures.1 in
    rw (p.1, p.2)
    (step_answered a.table.now a.state.now a.chosen
    (answered_refused _
    (step_table_refused a.table.now a.state.now a.chosen (head_refused written c.outline.ensures c.in_err-head.was))))

-- the table that was read
read : (c : In_ok-head) → let h = c.in_ok-head.head in Read c.args.table.now c.outline.new.marks h.props h.vars h.moves
unfolding wanted_of
read c = head_read written c.outline.ensures c.in_ok-head.was (record { each = λ i. omega (arith, c.type_inv.table i) })

pub check-requires : goal.check-requires
check-requires c =
    let r = read (goal.at.check-requires c).In_ok-head in
    rw c.new-blocks.ensures (few_props r, few_vars r)

pub choose-requires : goal.choose-requires
choose-requires c =
    rw c.new-blocks.ensures (read (goal.at.choose-requires c).In_ok-head, check_accepted (rw c.new-blocks.ensures at c.check.ensures) c.in_ok-check.was)

pub returns-in_err-check : goal.returns-in_err-check
returns-in_err-check c =
    let a = c.args in
    let r = read (goal.at.returns-in_err-check c).In_ok-head in
    let p = err_from_is_err_and c.from_residual-in_err-check.result c.from_residual-in_err-check.ensures.1 in
    rw (p.1, p.2)
    (step_answered a.table.now a.state.now a.chosen
    (answered_refused _
    (step_state_refused r a.state.now a.chosen (check_refused (rw c.new-blocks.ensures at c.check.ensures) c.in_err-check.was))))

pub returns : goal.returns
returns c =
    let a = c.args in
    step_answered a.table.now a.state.now a.chosen (rw c.new-blocks.ensures at c.choose.ensures)
