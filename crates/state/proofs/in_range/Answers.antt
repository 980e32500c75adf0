-- `in_range` meets its contract: the size by two tests. Assumes nothing.
use mathlib.Core.Path.{sym, ◌∙◌}
use lib.IntN.{negsuc}
use Rattle.integer.specs.Linear.{back, le_true, le_false}
use Rattle.state.specs.Checking.{range_low, range_high}
use Rattle.state.proofs.in_range.Goals as goal

pub returns-then-v-geminus1000000 : goal.returns-then-v-geminus1000000
returns-then-v-geminus1000000 c =
    let v = c.args.v in
    rw (back v c.ranges.v.sfits)
    (sym (range_high v (le_true (negsuc 999999) v (rw (back v c.ranges.v.sfits) at c.if-v-geminus1000000.true))))

pub returns-else-v-geminus1000000 : goal.returns-else-v-geminus1000000
returns-else-v-geminus1000000 c =
    let v = c.args.v in
    let below = rw (back v c.ranges.v.sfits) at c.if-v-geminus1000000.false in
    rw (back v c.ranges.v.sfits) (below ∙ sym (range_low v (le_false (negsuc 999999) v below)))
