-- `all_within` meets its contract. The invariant: the first `v` are within the limit. Assumes nothing.
use mathlib.Core.Path.{◌≡◌, ◌∙◌, sym}
use lib.IntN.{pos}
use lib.ListN.{get_or}
use Rattle.integer.specs.Linear.{back}
use Rattle.layer_checks.specs.Comparing.{within_at, passing_start, passing_next, passing_stop, passing_end}
use native.Mathlib.Omega.{arith}
use Rattle.layer_checks.proofs.all_within.Goals as goal

pub loop-v-init : goal.loop-v-init
loop-v-init c = passing_start _ _

pub returns-then-not-within_limit : goal.returns-then-not-within_limit
unfolding within_at
returns-then-not-within_limit c =
    let told : c.within_limit.result ≡ within_at c.args.row.now c.loop-v.v = rw (back (get_or c.args.row.now c.loop-v.v (pos 0)) (omega arith)) at c.within_limit.ensures in
    passing_stop c.loop-v.invariant (omega arith) (sym (told) ∙ c.if-not-within_limit.true)

pub loop-v-preserved : goal.loop-v-preserved
unfolding within_at
loop-v-preserved c =
    let told : c.within_limit.result ≡ within_at c.args.row.now c.loop-v.v = rw (back (get_or c.args.row.now c.loop-v.v (pos 0)) (omega arith)) at c.within_limit.ensures in
    passing_next c.loop-v.invariant (omega arith) (sym (told) ∙ c.if-not-within_limit.false)

pub returns : goal.returns
returns c = passing_end c.loop-v.invariant (omega arith)
