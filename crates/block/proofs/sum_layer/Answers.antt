-- `sum_layer` meets its contract. The invariant: in every reading, the first `i` terms are added up, each at most 10 ^ 15 in size.
-- Assumes nothing.
use Prim.Native.Nat.{◌+◌, ◌*◌, ◌≤◌}
use native.Mathlib.Omega.{arith}
use mathlib.Core.Path.{◌≡◌, sym, ap, ◌∙◌}
use lib.IntN.{pos, nat_abs, ◌+ℤ◌}
use lib.ListN.{get_or}
use mir.Syntax.{w64}
use mir.Val.{to_z}
use Rattle.integer.specs.Linear.{back, back_small, small_fits, abs_sum}
use Rattle.block.specs.Sums.{LayerAdding, few_terms, layer_start, layer_term, layer_room, layer_small, layer_stop, layer_step, layer_end, is_mark, encoded_unbounded}
use Rattle.block.proofs.sum_layer.Goals as goal
use Rattle.block.proofs.sum_layer.Goals.{In-loop-i, After-is_unbounded}

pub loop-i-init : goal.loop-i-init
loop-i-init c = (few_terms c.requires.terms, omega arith, λ k ts f h r. layer_start f h)

-- the reading that the caller has
own : (c : In-loop-i) → LayerAdding c.requires.ranges c.args.terms.now.part.now c.args.terms.now.from c.args.terms.now.count c.requires.val c.requires.ts c.loop-i.i (to_z w64 c.loop-i.total-bits)
own c = let p = c.requires in c.loop-i.invariant.2 p.ranges p.ts p.val p.terms p.row

pub overflow_add-at : goal.overflow_add-at
overflow_add-at c =
    omega (arith, (own (goal.at.overflow_add-at c).In-loop-i).terms.bytes.within)

pub variable-v-requires : goal.variable-v-requires
variable-v-requires c =
    layer_term c.loop-i-test.true (own (goal.at.variable-v-requires c).In-loop-i)

pub bounds-layer-v : goal.bounds-layer-v
bounds-layer-v c =
    layer_room c.loop-i-test.true (own (goal.at.bounds-layer-v c).In-loop-i) c.requires.row c.variable-v.ensures

pub offset_bounds-layer-v : goal.offset_bounds-layer-v
offset_bounds-layer-v c = omega (arith, bounds-layer-v c)

mark : (c : After-is_unbounded) → c.is_unbounded.result ≡ is_mark (get_or c.args.layer.now c.variable-v.result (pos 0))
mark c = c.is_unbounded.ensures ∙ ap is_mark (back _ c.x-1.given)

pub returns-then-is_unbounded : goal.returns-then-is_unbounded
returns-then-is_unbounded c =
    record {
      is =
          λ k ts f h r.
          encoded_unbounded 8000000000000000
          (layer_stop c.loop-i-test.true (c.loop-i.invariant.2 k ts f h r) r c.variable-v.ensures (sym (mark (goal.at.returns-then-is_unbounded c).After-is_unbounded) ∙ c.if-is_unbounded.true));
    }

pub scaled-total-requires : goal.scaled-total-requires
scaled-total-requires c =
    rw (back _ c.x-1.given) (
      layer_term c.loop-i-test.true (own (goal.at.scaled-total-requires c).In-loop-i),
      layer_small c.loop-i-test.true (own (goal.at.scaled-total-requires c).In-loop-i) c.requires.row c.variable-v.ensures (sym (mark (goal.at.scaled-total-requires c).After-is_unbounded) ∙ c.if-is_unbounded.false),
    )

pub overflow_add-total : goal.overflow_add-total
overflow_add-total c =
    let t = to_z w64 c.loop-i.total-bits in
    let s = c.scaled-total.result in
    rw (back s c.scaled-total.type_inv) (small_fits (t +ℤ s) (omega (arith, abs_sum t s, c.scaled-total.ensures.small)))

pub loop-i-preserved : goal.loop-i-preserved
loop-i-preserved c =
    let t = to_z w64 c.loop-i.total-bits in
    let s = c.scaled-total.result in
    let size : nat_abs (t +ℤ s) ≤ (c.loop-i.i + 1) * 1000000000000000 = omega (arith, abs_sum t s, c.scaled-total.ensures.small) in
    let more = rw (back _ c.x-1.given) at c.scaled-total.ensures in
    rw (back s c.scaled-total.type_inv, back_small (t +ℤ s) (omega (arith, size))) (
      omega arith,
      size,
      λ k ts f h r.
          layer_step c.loop-i-test.true (c.loop-i.invariant.2 k ts f h r) r c.variable-v.ensures (sym (mark (goal.at.loop-i-preserved c).After-is_unbounded) ∙ c.if-is_unbounded.false) more,
    )

pub returns : goal.returns
returns c = record { is = λ k ts f h r. layer_end c.loop-i-test.false (omega arith) (c.loop-i.invariant.2 k ts f h r) }
