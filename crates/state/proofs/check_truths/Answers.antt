-- `check_truths` meets its contract. The invariant: no byte passed is wrong. Assumes nothing.
use native.Mathlib.Omega.{arith}
use mathlib.Core.Option.{none, some}
use mathlib.Core.Path.{◌∙◌, ap}
use Rattle.model.proofs.Theorems.Laws.Searching.{searched_start, searched_next, searched_found, searched_all}
use Rattle.state.specs.Checking.{check_of, truth_wrong, truth_right, truths_found, truths_none}
use Rattle.state.proofs.check_truths.Goals as goal

pub loop-p-init : goal.loop-p-init
loop-p-init c = searched_start _ _

pub returns-then-state-p-gt1 : goal.returns-then-state-p-gt1
unfolding check_of
returns-then-state-p-gt1 c =
    let l = c.loop-p in
    let a = c.args in
    ap some c.at.ensures
    ∙ truths_found a.props a.state.now none
    (searched_found l.invariant (omega arith) (truth_wrong a.state.now l.p c.if-state-p-gt1.true))

pub loop-p-preserved : goal.loop-p-preserved
loop-p-preserved c =
    let l = c.loop-p in
    let a = c.args in
    searched_next l.invariant (omega arith) (truth_right a.state.now l.p c.if-state-p-gt1.false)

pub returns : goal.returns
unfolding check_of
returns c =
    let a = c.args in
    truths_none a.props a.state.now none (searched_all c.loop-p.invariant (omega arith))
