-- `sum_at` meets its contract. The invariant: in every reading, `n` terms are passed and added up. The measure is what is left of the part.
-- Assumes nothing.
use Prim.Native.Nat.{◌+◌}
use native.Mathlib.Omega.{arith}
use mathlib.Core.Path.{refl}
use lib.IntN.{◌+ℤ◌}
use mir.Syntax.{w64}
use mir.Val.{to_z}
use Rattle.integer.specs.Linear.{back, back_small, small_fits, abs_sum}
use Rattle.block.specs.Streams.{Summing, summing_start, summing_term, summing_room, summing_value, summing_more, summing_end}
use Rattle.block.proofs.sum_at.Goals as goal

pub loop-n-init : goal.loop-n-init
loop-n-init c = summing_start c.requires.inside

pub overflow_mul-n : goal.overflow_mul-n
overflow_mul-n c = omega (arith, c.loop-n.invariant.within)

pub overflow_add-from : goal.overflow_add-from
overflow_add-from c = omega (arith, c.loop-n.invariant.within)

pub bounds-part-from : goal.bounds-part-from
bounds-part-from c = c.loop-n.invariant.within

pub overflow_mul-at : goal.overflow_mul-at
overflow_mul-at c = omega (arith, c.loop-n.invariant.within)

pub overflow_add-at : goal.overflow_add-at
overflow_add-at c = omega (arith, c.loop-n.invariant.within)

pub variable-v-requires : goal.variable-v-requires
variable-v-requires c = summing_term c.requires c.loop-n.invariant c.loop-n-test.true

pub bounds-values-v : goal.bounds-values-v
bounds-values-v c = summing_room c.requires c.loop-n.invariant c.loop-n-test.true c.variable-v.ensures

pub offset_bounds-values-v : goal.offset_bounds-values-v
offset_bounds-values-v c = omega (arith, bounds-values-v c)

pub scaled-total-requires : goal.scaled-total-requires
scaled-total-requires c =
    rw (back _ c.x-1.given) (
      summing_term c.requires c.loop-n.invariant c.loop-n-test.true,
      summing_value c.requires c.loop-n.invariant c.loop-n-test.true c.variable-v.ensures,
    )

pub overflow_add-total : goal.overflow_add-total
overflow_add-total c =
    let t = to_z w64 c.loop-n.total-bits in
    let s = c.scaled-total.result in
    rw (back s c.scaled-total.type_inv)
    (small_fits (t +ℤ s) (omega (arith, abs_sum t s, c.scaled-total.ensures.small, c.loop-n.invariant.small, c.loop-n.invariant.few)))

pub overflow_add-n : goal.overflow_add-n
overflow_add-n c = omega (arith, c.loop-n.invariant.few)

pub loop-n-smaller : goal.loop-n-smaller
loop-n-smaller c =
    let t = to_z w64 c.loop-n.total-bits in
    let s = c.scaled-total.result in
    let again : Summing c.args.part.now c.args.from c.args.values.now (c.loop-n.n + 1) (t +ℤ s) =
    summing_more c.requires c.loop-n.invariant c.loop-n-test.true c.variable-v.ensures (rw (back _ c.x-1.given) at c.scaled-total.ensures) refl (abs_sum t s) in
    omega (arith, again.within)

pub loop-n-preserved : goal.loop-n-preserved
loop-n-preserved c =
    let t = to_z w64 c.loop-n.total-bits in
    let s = c.scaled-total.result in
    let again : Summing c.args.part.now c.args.from c.args.values.now (c.loop-n.n + 1) (t +ℤ s) =
    summing_more c.requires c.loop-n.invariant c.loop-n-test.true c.variable-v.ensures (rw (back _ c.x-1.given) at c.scaled-total.ensures) refl (abs_sum t s) in
    rw (back s c.scaled-total.type_inv, back_small (t +ℤ s) (omega (arith, again.small, again.few))) again

pub returns : goal.returns
returns c = summing_end c.requires c.loop-n.invariant c.loop-n-test.false
