-- `low` meets its contract. Assumes nothing.
use mathlib.Core.Path.{sym, ap, ◌∙◌}
use Rattle.integer.specs.Linear.{back}
use Rattle.block.specs.Sums.{is_mark}
use Rattle.stored_layer.specs.View.{low_mark, low_number}
use Rattle.stored_layer.proofs.low.Goals as goal

pub returns-then-is_unbounded : goal.returns-then-is_unbounded
returns-then-is_unbounded c =
    back c.args.old c.ranges.old.sfits
    ∙ low_mark c.args.value c.args.old (sym (c.is_unbounded.ensures ∙ ap is_mark (back c.args.value c.ranges.value.sfits)) ∙ c.if-is_unbounded.true)

pub returns-else-is_unbounded : goal.returns-else-is_unbounded
returns-else-is_unbounded c =
    back c.args.value c.ranges.value.sfits
    ∙ low_number c.args.value c.args.old (sym (c.is_unbounded.ensures ∙ ap is_mark (back c.args.value c.ranges.value.sfits)) ∙ c.if-is_unbounded.false)
