-- `within_limit` meets its contract. Assumes nothing.
use mathlib.Core.Path.{ap, sym, ◌∙◌}
use lib.IntN.{ℤ, pos}
use lib.Signed.{le_z}
use Rattle.integer.specs.Linear.{back}
use Rattle.layer_checks.specs.Comparing.{within_mark, within_number}
use Rattle.layer_checks.proofs.within_limit.Goals as goal

pub returns-then-is_unbounded : goal.returns-then-is_unbounded
returns-then-is_unbounded c = c.if-is_unbounded.true ∙ within_mark c.args.value (sym (rw (back c.args.value c.ranges.value.sfits) at c.is_unbounded.ensures) ∙ c.if-is_unbounded.true)

pub returns-else-is_unbounded : goal.returns-else-is_unbounded
returns-else-is_unbounded c =
    ap (λ (z : ℤ). le_z z (pos 1000000000000)) (back c.args.value c.ranges.value.sfits)
    ∙ within_number c.args.value (sym (rw (back c.args.value c.ranges.value.sfits) at c.is_unbounded.ensures) ∙ c.if-is_unbounded.false)
