-- `check_values` meets its contract. The invariant: no value passed is out of range. Assumes nothing.
use native.Mathlib.Omega.{arith}
use mathlib.Core.Option.{some}
use mathlib.Core.Path.{◌∙◌, ap}
use mathlib.Core.Bool.{not}
use Rattle.integer.specs.Linear.{back}
use Rattle.model.specs.Limits.{paper}
use Rattle.model.specs.StateTable.{value_in_range}
use Rattle.model.proofs.Theorems.Laws.Searching.{searched_start, searched_next, searched_found, searched_all}
use Rattle.state.specs.Checking.{check_of, value_flag, values_found, values_none}
use Rattle.state.specs.Loading.{value_read}
use Rattle.state.proofs.check_values.Goals as goal

pub loop-v-init : goal.loop-v-init
loop-v-init c = searched_start _ _

pub loop-v-preserved : goal.loop-v-preserved
loop-v-preserved c =
    let a = c.args in
    let l = c.loop-v in
    let z = c.i32_at.result in
    searched_next l.invariant (omega arith)
    (value_flag a.props a.state.now l.v c.in_range.result
    ((rw (back z c.i32_at.type_inv) at c.in_range.ensures)
    ∙ ap (value_in_range paper) (c.i32_at.ensures.0 ∙ value_read a.props a.state.now l.v))
    ∙ ap not c.if-not-in_range.false)

pub returns-then-not-in_range : goal.returns-then-not-in_range
unfolding check_of
returns-then-not-in_range c =
    let a = c.args in
    let l = c.loop-v in
    let z = c.i32_at.result in
    ap some c.at.ensures
    ∙ values_found a.props a.state.now a.vars
    (searched_found l.invariant (omega arith)
    (value_flag a.props a.state.now l.v c.in_range.result
    ((rw (back z c.i32_at.type_inv) at c.in_range.ensures)
    ∙ ap (value_in_range paper) (c.i32_at.ensures.0 ∙ value_read a.props a.state.now l.v))
    ∙ ap not c.if-not-in_range.true))

pub returns : goal.returns
unfolding check_of
returns c =
    let a = c.args in
    values_none a.props a.state.now a.vars (searched_all c.loop-v.invariant (omega arith))
