-- `check` meets its contract: the length, then the truth bytes, then the values. Assumes nothing.
use native.Mathlib.Omega.{arith}
use mathlib.Core.Option.{some}
use mathlib.Core.Path.{sym, ◌∙◌, ap}
use Rattle.std.proofs.lemmas.Result.{err_from_is_err_and}
use Rattle.state.specs.Checking.{check_of, values_refusal, length_refused, length_right, truths_refused, truths_accepted}
use Rattle.state.proofs.check.Goals as goal

pub returns-then-state-props : goal.returns-then-state-props
unfolding check_of
returns-then-state-props c =
    let a = c.args in
    ap some c.at.ensures ∙ sym (length_refused a.props a.vars a.state.now (λ e. omega arith))

pub returns-in_err-check_truths : goal.returns-in_err-check_truths
unfolding check_of
returns-in_err-check_truths c =
    let a = c.args in
    let p = err_from_is_err_and c.from_residual.result c.from_residual.ensures.1 in
    rw (p.1, p.2)
    (truths_refused a.props a.state.now (values_refusal a.props a.vars a.state.now) _ c.in_err-check_truths.ensures
    ∙ sym (length_right a.props a.vars a.state.now (omega arith)))

pub returns : goal.returns
unfolding check_of
returns c =
    let a = c.args in
    c.check_values.ensures
    ∙ truths_accepted a.props a.state.now (values_refusal a.props a.vars a.state.now) c.in_ok-check_truths.ensures
    ∙ sym (length_right a.props a.vars a.state.now (omega arith))
