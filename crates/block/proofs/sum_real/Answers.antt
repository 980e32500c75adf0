-- `sum_real` meets its contract. The invariant: in every reading, the first `i` terms are added up, each at most 10 ^ 15 in size.
-- Assumes nothing.
use Prim.Native.Nat.{◌+◌, ◌*◌, ◌≤◌}
use native.Mathlib.Omega.{arith}
use lib.IntN.{nat_abs, ◌+ℤ◌}
use mir.Syntax.{w64}
use mir.Val.{to_z}
use Rattle.integer.specs.Linear.{back, back_small, small_fits, abs_sum}
use Rattle.block.specs.Sums.{Adding, few_terms, adding_start, adding_term, adding_room, adding_small, adding_step, adding_end}
use Rattle.block.proofs.sum_real.Goals as goal
use Rattle.block.proofs.sum_real.Goals.{In-loop-i}

pub loop-i-init : goal.loop-i-init
loop-i-init c = (few_terms c.requires.terms, omega arith, λ k ts f h r. adding_start f h)

-- the reading that the caller has
own : (c : In-loop-i) → Adding c.requires.ranges c.args.terms.now.part.now c.args.terms.now.from c.args.terms.now.count c.requires.val c.requires.ts c.loop-i.i (to_z w64 c.loop-i.total-bits)
own c = let p = c.requires in c.loop-i.invariant.2 p.ranges p.ts p.val p.terms p.row

pub overflow_add-at : goal.overflow_add-at
overflow_add-at c =
    omega (arith, (own (goal.at.overflow_add-at c).In-loop-i).terms.bytes.within)

pub variable-v-requires : goal.variable-v-requires
variable-v-requires c =
    adding_term c.loop-i-test.true (own (goal.at.variable-v-requires c).In-loop-i)

pub bounds-values-v : goal.bounds-values-v
bounds-values-v c =
    adding_room c.loop-i-test.true (own (goal.at.bounds-values-v c).In-loop-i) c.requires.row c.variable-v.ensures

pub offset_bounds-values-v : goal.offset_bounds-values-v
offset_bounds-values-v c = omega (arith, bounds-values-v c)

pub scaled-total-requires : goal.scaled-total-requires
scaled-total-requires c =
    rw (back _ c.x-1.given) (
      adding_term c.loop-i-test.true (own (goal.at.scaled-total-requires c).In-loop-i),
      adding_small c.loop-i-test.true (own (goal.at.scaled-total-requires c).In-loop-i) c.requires.row c.variable-v.ensures,
    )

pub overflow_add-total : goal.overflow_add-total
overflow_add-total c =
    let t = to_z w64 c.loop-i.total-bits in
    let s = c.scaled-total.result in
    rw (back s c.scaled-total.type_inv) (small_fits (t +ℤ s) (omega (arith, abs_sum t s, c.scaled-total.ensures.small)))

pub loop-i-preserved : goal.loop-i-preserved
loop-i-preserved c =
    let t = to_z w64 c.loop-i.total-bits in
    let s = c.scaled-total.result in
    let size : nat_abs (t +ℤ s) ≤ (c.loop-i.i + 1) * 1000000000000000 = omega (arith, abs_sum t s, c.scaled-total.ensures.small) in
    let more = rw (back _ c.x-1.given) at c.scaled-total.ensures in
    rw (back s c.scaled-total.type_inv, back_small (t +ℤ s) (omega (arith, size))) (
      omega arith,
      size,
      λ k ts f h r. adding_step c.loop-i-test.true (c.loop-i.invariant.2 k ts f h r) r c.variable-v.ensures more,
    )

pub returns : goal.returns
returns c =
    record {
      is = λ k ts f h r. adding_end c.loop-i-test.false (c.loop-i.invariant.2 k ts f h r);
      small = omega arith;
    }
