-- `same_row` meets its contract. The invariant: the first `v` are not above. Assumes nothing.
use lib.IntN.{pos}
use lib.ListN.{get_or}
use Rattle.integer.specs.Linear.{back, lt_true, lt_false, lt_le_z, le_le_z}
use Rattle.layer_checks.specs.Comparing.{not_above, passing_start, passing_next, passing_stop, passing_end}
use native.Mathlib.Omega.{arith}
use Rattle.layer_checks.proofs.same_row.Goals as goal

pub loop-v-init : goal.loop-v-init
loop-v-init c = passing_start _ _

pub returns-then-next-v : goal.returns-then-next-v
unfolding not_above
returns-then-next-v c =
    let x = get_or c.args.next.now c.loop-v.v (pos 0) in
    let y = get_or c.args.row.now c.loop-v.v (pos 0) in
    let more = rw (back x (omega arith), back y (omega arith)) at c.if-next-v.true in
    passing_stop c.loop-v.invariant (omega arith) (lt_le_z (lt_true y x more))

pub loop-v-preserved : goal.loop-v-preserved
unfolding not_above
loop-v-preserved c =
    let x = get_or c.args.next.now c.loop-v.v (pos 0) in
    let y = get_or c.args.row.now c.loop-v.v (pos 0) in
    let no_more = rw (back x (omega arith), back y (omega arith)) at c.if-next-v.false in
    passing_next c.loop-v.invariant (omega arith) (le_le_z (lt_false y x no_more))

pub returns : goal.returns
returns c = passing_end c.loop-v.invariant (omega arith)
