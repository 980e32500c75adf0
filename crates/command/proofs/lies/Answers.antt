-- `lies` meets its contract: two comparisons in the order of reading. Assumes nothing.
use Rattle.std.proofs.Common.{sym, ◌∙◌}
use Rattle.command.specs.Checks.{lies_in}
use Rattle.command.proofs.Places.{le_order}
use Rattle.command.proofs.lies.Goals as goal

pub returns-then-le : goal.returns-then-le
unfolding lies_in
returns-then-le c =
    let above = sym (le_order c.args.first c.args.place) ∙ sym c.le.ensures ∙ c.if-le.true in
    rw above (c.le-then-le.ensures ∙ le_order c.args.place c.args.last)

pub returns-else-le : goal.returns-else-le
unfolding lies_in
returns-else-le c =
    let below = sym (le_order c.args.first c.args.place) ∙ sym c.le.ensures ∙ c.if-le.false in
    rw below c.if-le.false
