-- `write_plan` meets its contract. The invariant: in every reading, the wants are those of layer `t`, and the records of the layers
-- from `t` on are written, from `at` on. Assumes nothing.
use Prim.Native.Nat.{◌-◌, ◌<◌}
use native.Mathlib.Omega.{arith}
use mathlib.Core.Path.{sym}
use Rattle.stored_layer.specs.Stored.{stored_moves}
use Rattle.passes.specs.Passes.{walk_layer, walk_next, walk_long, walk_counted, backwards_start, backwards_down, back_enough, back_room, back_next, backwards_end}
use Rattle.passes.proofs.write_plan.Goals as goal

pub overflow_mul-at : goal.overflow_mul-at
overflow_mul-at c = omega (arith, c.requires.room)

pub loop-t-init : goal.loop-t-init
loop-t-init c x = backwards_start x

pub descend-wants-requires : goal.descend-wants-requires
descend-wants-requires c =
    let x = c.requires in
    let s = backwards_down c.loop-t-test.true (c.loop-t.invariant x) in
    let lt : c.loop-t.t - 1 < c.args.m = omega (arith, c.loop-t-test.true, c.loop-t.auto.t) in
    (walk_layer x.begun.stored x.begun.row lt s.walked, c.loop-t-test.true)

pub slice_bounds-count_taken-end : goal.slice_bounds-count_taken-end
slice_bounds-count_taken-end c =
    let x = c.requires in
    let s = backwards_down c.loop-t-test.true (c.loop-t.invariant x) in
    let lt : c.loop-t.t - 1 < c.args.m = omega (arith, c.loop-t-test.true, c.loop-t.auto.t) in
    sym (walk_long x.begun.stored x.begun.row lt s.walked (c.descend-wants.ensures (walk_layer x.begun.stored x.begun.row lt s.walked)))

pub count_taken-requires : goal.count_taken-requires
count_taken-requires c =
    let x = c.requires in
    let s = backwards_down c.loop-t-test.true (c.loop-t.invariant x) in
    let lt : c.loop-t.t - 1 < c.args.m = omega (arith, c.loop-t-test.true, c.loop-t.auto.t) in
    omega (arith, walk_long x.begun.stored x.begun.row lt s.walked (c.descend-wants.ensures (walk_layer x.begun.stored x.begun.row lt s.walked)), stored_moves x.begun.stored.memory)

pub overflow_mul-at-in-loop-t : goal.overflow_mul-at-in-loop-t
overflow_mul-at-in-loop-t c = omega (arith, c.count_taken.ensures.1, stored_moves c.requires.begun.stored.memory)

pub overflow_sub-at : goal.overflow_sub-at
overflow_sub-at c =
    let x = c.requires in
    let s = backwards_down c.loop-t-test.true (c.loop-t.invariant x) in
    let lt : c.loop-t.t - 1 < c.args.m = omega (arith, c.loop-t-test.true, c.loop-t.auto.t) in
    let e = c.descend-wants.ensures (walk_layer x.begun.stored x.begun.row lt s.walked) in
    back_enough x lt s (walk_next x.begun.stored x.begun.row lt s.walked e) (walk_counted x.begun.stored x.begun.row lt s.walked e) c.count_taken.ensures.0

pub slice_bounds-write_records-end : goal.slice_bounds-write_records-end
slice_bounds-write_records-end c =
    let x = c.requires in
    let s = backwards_down c.loop-t-test.true (c.loop-t.invariant x) in
    let lt : c.loop-t.t - 1 < c.args.m = omega (arith, c.loop-t-test.true, c.loop-t.auto.t) in
    sym (walk_long x.begun.stored x.begun.row lt s.walked (c.descend-wants.ensures (walk_layer x.begun.stored x.begun.row lt s.walked)))

pub write_records-requires : goal.write_records-requires
write_records-requires c =
    let x = c.requires in
    let s = backwards_down c.loop-t-test.true (c.loop-t.invariant x) in
    let lt : c.loop-t.t - 1 < c.args.m = omega (arith, c.loop-t-test.true, c.loop-t.auto.t) in
    let e = c.descend-wants.ensures (walk_layer x.begun.stored x.begun.row lt s.walked) in (
      omega (arith, walk_long x.begun.stored x.begun.row lt s.walked e, stored_moves x.begun.stored.memory),
      stored_moves x.begun.stored.memory,
      back_room x lt s (walk_next x.begun.stored x.begun.row lt s.walked e) (walk_counted x.begun.stored x.begun.row lt s.walked e) c.count_taken.ensures.0,
    )

pub loop-t-preserved : goal.loop-t-preserved
loop-t-preserved c x =
    let s = backwards_down c.loop-t-test.true (c.loop-t.invariant x) in
    let lt : c.loop-t.t - 1 < c.args.m = omega (arith, c.loop-t-test.true, c.loop-t.auto.t) in
    let e = c.descend-wants.ensures (walk_layer x.begun.stored x.begun.row lt s.walked) in
    back_next x lt s (walk_next x.begun.stored x.begun.row lt s.walked e) (walk_counted x.begun.stored x.begun.row lt s.walked e) c.count_taken.ensures.0 c.write_records.ensures

pub returns : goal.returns
returns c x = backwards_end x _ (omega (arith, c.loop-t-test.false)) (c.loop-t.invariant x)
