-- `layer_value` meets its contract: an unbounded sum stays so, and any other is small. Assumes nothing.
use Prim.Native.Nat.{◌≤◌}
use native.Mathlib.Omega.{arith}
use mathlib.Core.Path.{◌≡◌, refl, sym, ap, ◌∙◌}
use lib.IntN.{nat_abs, ◌+ℤ◌}
use Rattle.integer.specs.Linear.{back, small_fits, op2_fits, op2_back, abs_sum}
use Rattle.block.specs.Sums.{is_mark, layer_value_stop, layer_value_of, layer_sum_small}
use Rattle.block.proofs.layer_value.Goals as goal

pub sum_layer-s-requires : goal.sum_layer-s-requires
sum_layer-s-requires c = c.requires.0

pub returns-then-is_unbounded : goal.returns-then-is_unbounded
returns-then-is_unbounded c =
    let mark : c.is_unbounded.result ≡ is_mark c.sum_layer-s.result = c.is_unbounded.ensures ∙ ap is_mark (back c.sum_layer-s.result c.sum_layer-s.type_inv) in
    layer_value_stop _ c.sum_layer-s.ensures (sym (mark) ∙ c.if-is_unbounded.true)

pub overflow_add-result : goal.overflow_add-result
overflow_add-result c =
    let mark : c.is_unbounded.result ≡ is_mark c.sum_layer-s.result = c.is_unbounded.ensures ∙ ap is_mark (back c.sum_layer-s.result c.sum_layer-s.type_inv) in
    let s = c.sum_layer-s.result in
    let small : nat_abs s ≤ 8000000000000000 = layer_sum_small c.requires.0 c.sum_layer-s.ensures (sym (mark) ∙ c.if-is_unbounded.false) in
    op2_fits ◌+ℤ◌ s c.args.base (small_fits s (omega (arith, small))) c.ranges.base (omega (arith, abs_sum s c.args.base, small, c.requires.1))

pub returns : goal.returns
returns c =
    let mark : c.is_unbounded.result ≡ is_mark c.sum_layer-s.result = c.is_unbounded.ensures ∙ ap is_mark (back c.sum_layer-s.result c.sum_layer-s.type_inv) in
    let s = c.sum_layer-s.result in
    let small : nat_abs s ≤ 8000000000000000 = layer_sum_small c.requires.0 c.sum_layer-s.ensures (sym (mark) ∙ c.if-is_unbounded.false) in
    let size : nat_abs (s +ℤ c.args.base) ≤ 8000000001000000 = omega (arith, abs_sum s c.args.base, small, c.requires.1) in
    rw (op2_back ◌+ℤ◌ s c.args.base (small_fits s (omega (arith, small))) c.ranges.base (omega (arith, size)))
    (layer_value_of c.sum_layer-s.ensures (sym (mark) ∙ c.if-is_unbounded.false) refl (omega (arith, size)))
