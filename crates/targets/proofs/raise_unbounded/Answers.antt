-- `raise_unbounded` meets its contract. Assumes nothing.
use native.Mathlib.Omega.{arith}
use lib.IntN.{◌-ℤ◌}
use Rattle.integer.specs.Linear.{back, small_fits, op2_fits, op2_back, abs_sub}
use Rattle.targets.specs.Wanting.{open_read, open_term, open_finitely, open_summable, open_wanted}
use Rattle.targets.specs.Encoding.{raised_at_lem}
use Rattle.targets.proofs.raise_unbounded.Goals as goal

pub raise_finite-requires : goal.raise_finite-requires
raise_finite-requires c =
    let p = c.requires in
    record { props = p.wantable.props; it = open_finitely p.wantable.it p.some p.variable p.mark }

pub sum_real-requires : goal.sum_real-requires
sum_real-requires c = let p = c.requires in open_summable p.wantable.it p.some p.variable p.mark

pub overflow_sub-rest : goal.overflow_sub-rest
overflow_sub-rest c =
    let s = c.sum_real.result in
    op2_fits ◌-ℤ◌ c.args.c s c.ranges.c (small_fits s (omega (arith, c.sum_real.ensures.small)))
    (omega (arith, abs_sub c.args.c s, c.requires.size, c.sum_real.ensures.small))

pub divisor-requires : goal.divisor-requires
divisor-requires c = let p = c.requires in open_term p.wantable.it p.some p.variable p.mark

pub ceil_div-requires : goal.ceil_div-requires
ceil_div-requires c =
    let s = c.sum_real.result in
    let size = abs_sub c.args.c s in
    rw (op2_back ◌-ℤ◌ c.args.c s c.ranges.c (small_fits s (omega (arith, c.sum_real.ensures.small))) (omega (arith, size, c.requires.size, c.sum_real.ensures.small)))
    (c.divisor.ensures.positive, omega (arith, size, c.divisor.ensures.small, c.sum_real.ensures.small, c.requires.size))

pub raise_target-requires : goal.raise_target-requires
raise_target-requires c =
    let p = c.requires in
    omega (arith, (open_read p.wantable.it p.some p.variable p.mark).small, p.wantable.it.encoded.few_vars)

pub returns : goal.returns
returns c ps x =
    let s = c.sum_real.result in
    let p = c.requires in
    let left = op2_back ◌-ℤ◌ c.args.c s c.ranges.c (small_fits s (omega (arith, c.sum_real.ensures.small))) (omega (arith, abs_sub c.args.c s, c.requires.size, c.sum_real.ensures.small)) in
    open_wanted x p.some p.variable p.mark
    (c.raise_finite.ensures ps (open_finitely x p.some p.variable p.mark))
    c.sum_real.ensures c.divisor.ensures
    (rw left at c.ceil_div.ensures.0)
    c.ceil_div.type_inv
    (raised_at_lem (rw (back c.ceil_div.result c.ceil_div.type_inv) at c.raise_target.ensures))
