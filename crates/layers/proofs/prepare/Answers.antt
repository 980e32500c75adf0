-- `prepare` meets its contract. Assumes nothing.
use native.Mathlib.Omega.{arith}
use Rattle.std.proofs.lemmas.Result.{err_from_is_err_and}
use Rattle.model.specs.Task.{normal}
use Rattle.table.specs.Names.{wanted_of}
use Rattle.table.specs.Outlines.{HeadRead, head_read, head_refused}
use Rattle.state.specs.Checking.{check_accepted, check_refused}
use Rattle.layers.specs.Preparing.{table_refused, head_props, head_vars, state_refused, both_accepted}
use Rattle.layers.proofs.prepare.Goals as goal
use Rattle.layers.proofs.prepare.Goals.{In_ok-head}

pub returns-in_err-head : goal.returns-in_err-head
unfolding wanted_of
returns-in_err-head c =
    let p = err_from_is_err_and c.from_residual.result c.from_residual.ensures.1 in
    rw (p.1, p.2) (table_refused c.args.table.now c.args.state.now (head_refused normal c.outline.ensures c.in_err-head.was))

-- the head that was read
headed : (c : In_ok-head) → let h = c.in_ok-head.head in HeadRead normal c.args.table.now c.outline.new.marks h.props h.vars h.moves
unfolding wanted_of
headed c = head_read normal c.outline.ensures c.in_ok-head.was (record { each = λ i. omega (arith, c.type_inv.table i) })

pub check-requires : goal.check-requires
unfolding wanted_of
check-requires c =
    (head_props (headed (goal.at.check-requires c).In_ok-head), omega (arith, head_vars (headed (goal.at.check-requires c).In_ok-head)))

pub returns-in_err-check : goal.returns-in_err-check
unfolding wanted_of
returns-in_err-check c =
    let p = err_from_is_err_and c.from_residual-in_err-check.result c.from_residual-in_err-check.ensures.1 in
    rw (p.1, p.2) (state_refused (headed (goal.at.returns-in_err-check c).In_ok-head) c.args.state.now (check_refused c.check.ensures c.in_err-check.was))

pub returns : goal.returns
unfolding wanted_of
returns c =
    both_accepted (headed (goal.at.returns c).In_ok-head) c.args.state.now (check_accepted c.check.ensures c.in_ok-check.was)
