-- `outline` meets its contract. The loop keeps `Reach`: reading goes on from what has been seen, which the cursor and the arrays track; the measure is the bytes left.
-- Assumes nothing.
use Prim.Native.Nat.{ℕ, ◌≤◌, ◌<◌}
use mathlib.Core.Path.{refl, subst}
use native.Mathlib.Omega.{arith}
use Rattle.std.proofs.lemmas.Result.{err_from_is_err_and}
use lib.ListN.{length, length-replicate}
use Rattle.model.specs.Limits.{paper}
use Rattle.model.specs.Reading.{length_limit}
use Rattle.command.specs.Names.{wanted_of}
use Rattle.cursor.proofs.State.{passed}
use Rattle.table.specs.Answer.{reach_begin, reach_next, reach_refused, reach_finish, outlined_long}
use Rattle.table.proofs.outline.Goals as goal

pub returns-then-length_limit-table : goal.returns-then-length_limit-table
returns-then-length_limit-table c =
    let lt : length_limit paper (wanted_of c.args.wanted) c.args.table.now < length c.args.table.now = subst (λ (n : ℕ). n < length c.args.table.now) c.length_limit.ensures c.if-length_limit-table.true in
    outlined_long _ _ _ _ (lt) c.at.ensures

pub loop-c-init : goal.loop-c-init
loop-c-init c =
    let fits : length c.args.table.now ≤ length_limit paper (wanted_of c.args.wanted) c.args.table.now = subst (λ (n : ℕ). length c.args.table.now ≤ n) c.length_limit.ensures c.if-length_limit-table.false in
    reach_begin _ _ _ (fits) (length-replicate {A = ℕ} 66 0) c.beginning-c.ensures refl refl refl refl

pub checked-requires : goal.checked-requires
checked-requires c = c.loop-c.invariant.valid

pub returns-in_err-checked : goal.returns-in_err-checked
returns-in_err-checked c =
    let p = err_from_is_err_and c.from_residual.result c.from_residual.ensures.1 in
    rw (p.1, p.2)
    (reach_refused c.loop-c.invariant _ _ c.loop-c-test.true c.command_of-command.ensures c.in_err-checked.ensures)

pub advance-c-requires : goal.advance-c-requires
advance-c-requires c = (c.loop-c.invariant.valid, passed _ _ _ _ _ _ _ c.in_ok-checked.ensures)

pub loop-c-smaller : goal.loop-c-smaller
loop-c-smaller c = omega (arith, c.advance-c.ensures.moved, c.loop-c-test.true)

pub loop-c-preserved : goal.loop-c-preserved
loop-c-preserved c = reach_next c.loop-c.invariant _ c.loop-c-test.true c.command_of-command.ensures c.in_ok-checked.ensures c.advance-c.ensures

pub finish-requires : goal.finish-requires
finish-requires c = c.loop-c.invariant.valid.vars

pub returns : goal.returns
returns c = reach_finish c.loop-c.invariant c.loop-c-test.false c.finish.ensures
