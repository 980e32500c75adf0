-- `fill` meets its contract: 19 before 13, and 13 before a byte is written. Assumes nothing.
use Rattle.std.proofs.Common.{arith, rules}
use Rattle.std.proofs.lemmas.Result.{err_from_is_err_and}
use Rattle.closure.specs.Filling.{first_passed, first_refused, filled_short, filled_whole}
use Rattle.closure.proofs.fill.Goals as goal

pub returns-in_err-end : goal.returns-in_err-end
returns-in_err-end c =
    let p = err_from_is_err_and c.from_residual.result c.from_residual.ensures.1 in
    rw (p.1, p.2) (first_refused _ _ _ _ (search rules) c.in_err-end.was c.walk.ensures)

pub returns-then-out-durations : goal.returns-then-out-durations
returns-then-out-durations c =
    rw c.at.ensures (filled_short (first_passed _ _ _ (search rules) c.in_ok-end.was c.walk.ensures) _ (omega arith))

pub returns : goal.returns
returns c =
    filled_whole (first_passed _ _ _ (search rules) c.in_ok-end.was c.walk.ensures) _ c.walk-2.result (omega arith)
    c.walk-2.ensures
