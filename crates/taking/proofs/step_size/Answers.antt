-- `step_size` meets its contract: a finite value is at least 1. Assumes nothing.
use native.Mathlib.Omega.{arith}
use mathlib.Core.Path.{refl, sym, ap, ◌∙◌}
use Rattle.integer.specs.Linear.{zlin, back, nat_abs_split}
use Rattle.block.specs.Sums.{is_mark}
use Rattle.targets.specs.Wanting.{non_negative}
use Rattle.taking.specs.Taking.{step_unbounded, step_finite, above_finite}
use Rattle.taking.proofs.step_size.Goals as goal

pub returns-then-is_unbounded : goal.returns-then-is_unbounded
returns-then-is_unbounded c = (step_unbounded c.args.value (sym (c.is_unbounded.ensures ∙ ap is_mark (back c.args.value c.ranges.value.sfits)) ∙ c.if-is_unbounded.true), omega arith, omega arith)

pub overflow_cast-result : goal.overflow_cast-result
overflow_cast-result c =
    let f = above_finite c.requires (sym (c.is_unbounded.ensures ∙ ap is_mark (back c.args.value c.ranges.value.sfits)) ∙ c.if-is_unbounded.false) in
    rw (back c.args.value c.ranges.value.sfits) (non_negative c.args.value f.0, record { fits = omega (arith, f.1) })

pub returns : goal.returns
returns c =
    let m = sym (c.is_unbounded.ensures ∙ ap is_mark (back c.args.value c.ranges.value.sfits)) ∙ c.if-is_unbounded.false in
    let f = above_finite c.requires m in
    rw (back c.args.value c.ranges.value.sfits)
    (step_finite c.args.value m refl, omega (zlin, f.0, nat_abs_split c.args.value), f.1)
