-- `applicable` meets its contract. The invariant: the items that are left decide. The measure is what is left of the part.
-- Assumes nothing.
use Prim.Native.Nat.{◌+◌, ◌*◌, ◌≤◌, ◌<◌}
use native.Mathlib.Omega.{arith}
use mathlib.Core.Path.{◌≡◌, refl, sym}
use lib.ListN.{length, get_or}
use mir.Syntax.{w64}
use mir.Val.{to_z, of_z}
use Rattle.integer.specs.Linear.{back_small}
use Rattle.model.specs.Lists.{all}
use Rattle.model.specs.Move.{applicable}
use Rattle.block.specs.Items.{Next, next_ahead}
use Rattle.block.specs.Blocks.{walk_start, walk_next, walk_stop, walk_done}
use Rattle.block.specs.Streams.{Addable, width_by, item_by, sum_item, sum_behind, Over, Asked, Judged, Verdict, judged_room}
use Rattle.block.proofs.applicable.Goals as goal

pub loop-from-init : goal.loop-from-init
loop-from-init c = walk_start (Over _ _) Asked c.requires.left.bytes.within

pub sum_at-sum-requires : goal.sum_at-sum-requires
sum_at-sum-requires c =
    let left_here : Addable c.args.part.now c.loop-from.from c.args.values.now = let p = c.requires in
    let r = c.loop-from.invariant.reading p.ranges p.block p.over p.left p.row in
    record { inside = c.loop-from-test.true; ranges = p.ranges; rest = r.rest; left = r.left; val = p.over.val; row = p.row.row } in
    left_here

pub fails-requires : goal.fails-requires
fails-requires c =
    let same : to_z w64 (of_z w64 c.sum_at-sum.result.total) ≡ c.sum_at-sum.result.total = back_small c.sum_at-sum.result.total (omega (arith, c.sum_at-sum.ensures.sum.small)) in
    let left_here : Addable c.args.part.now c.loop-from.from c.args.values.now = let p = c.requires in
    let r = c.loop-from.invariant.reading p.ranges p.block p.over p.left p.row in
    record { inside = c.loop-from-test.true; ranges = p.ranges; rest = r.rest; left = r.left; val = p.over.val; row = p.row.row } in
    let judged : Judged c.args.part.now c.loop-from.from c.sum_at-sum.result.terms c.sum_at-sum.result.total c.args.has.now = let p = c.requires in
    record { values = c.args.values.now; addable = left_here; sum = c.sum_at-sum.ensures; over = p.over; row = p.row } in
    rw (same) (judged)

pub returns-then-fails : goal.returns-then-fails
unfolding applicable
returns-then-fails c =
    let left_here : Addable c.args.part.now c.loop-from.from c.args.values.now = let p = c.requires in
    let r = c.loop-from.invariant.reading p.ranges p.block p.over p.left p.row in
    record { inside = c.loop-from-test.true; ranges = p.ranges; rest = r.rest; left = r.left; val = p.over.val; row = p.row.row } in
    let item-next : Next c.args.part.now c.loop-from.from (item_by c.args.part.now c.loop-from.from c.sum_at-sum.result.terms) = sum_item (left_here) c.sum_at-sum.ensures in
    let same : to_z w64 (of_z w64 c.sum_at-sum.result.total) ≡ c.sum_at-sum.result.total = back_small c.sum_at-sum.result.total (omega (arith, c.sum_at-sum.ensures.sum.small)) in
    let verdict : Verdict c.args.part.now c.args.has.now c.args.values.now c.fails.result (item_by c.args.part.now c.loop-from.from c.sum_at-sum.result.terms) = (rw (same) at c.fails.ensures).is _ c.sum_at-sum.ensures in
    record { is = walk_stop (Over _ _) Asked c.loop-from.invariant (item-next) ((verdict).0 c.if-fails.true) }

pub overflow_mul-from : goal.overflow_mul-from
overflow_mul-from c =
    let left_here : Addable c.args.part.now c.loop-from.from c.args.values.now = let p = c.requires in
    let r = c.loop-from.invariant.reading p.ranges p.block p.over p.left p.row in
    record { inside = c.loop-from-test.true; ranges = p.ranges; rest = r.rest; left = r.left; val = p.over.val; row = p.row.row } in
    let judged : Judged c.args.part.now c.loop-from.from c.sum_at-sum.result.terms c.sum_at-sum.result.total c.args.has.now = let p = c.requires in
    record { values = c.args.values.now; addable = left_here; sum = c.sum_at-sum.ensures; over = p.over; row = p.row } in
    omega (arith, judged_room (judged))

pub overflow_add-from : goal.overflow_add-from
overflow_add-from c =
    let left_here : Addable c.args.part.now c.loop-from.from c.args.values.now = let p = c.requires in
    let r = c.loop-from.invariant.reading p.ranges p.block p.over p.left p.row in
    record { inside = c.loop-from-test.true; ranges = p.ranges; rest = r.rest; left = r.left; val = p.over.val; row = p.row.row } in
    let judged : Judged c.args.part.now c.loop-from.from c.sum_at-sum.result.terms c.sum_at-sum.result.total c.args.has.now = let p = c.requires in
    record { values = c.args.values.now; addable = left_here; sum = c.sum_at-sum.ensures; over = p.over; row = p.row } in
    omega (arith, judged_room (judged))

pub overflow_mul-count : goal.overflow_mul-count
overflow_mul-count c =
    let left_here : Addable c.args.part.now c.loop-from.from c.args.values.now = let p = c.requires in
    let r = c.loop-from.invariant.reading p.ranges p.block p.over p.left p.row in
    record { inside = c.loop-from-test.true; ranges = p.ranges; rest = r.rest; left = r.left; val = p.over.val; row = p.row.row } in
    let judged : Judged c.args.part.now c.loop-from.from c.sum_at-sum.result.terms c.sum_at-sum.result.total c.args.has.now = let p = c.requires in
    record { values = c.args.values.now; addable = left_here; sum = c.sum_at-sum.ensures; over = p.over; row = p.row } in
    omega (arith, judged_room (judged))

pub overflow_add-from-in-loop-from : goal.overflow_add-from-in-loop-from
overflow_add-from-in-loop-from c =
    let left_here : Addable c.args.part.now c.loop-from.from c.args.values.now = let p = c.requires in
    let r = c.loop-from.invariant.reading p.ranges p.block p.over p.left p.row in
    record { inside = c.loop-from-test.true; ranges = p.ranges; rest = r.rest; left = r.left; val = p.over.val; row = p.row.row } in
    let judged : Judged c.args.part.now c.loop-from.from c.sum_at-sum.result.terms c.sum_at-sum.result.total c.args.has.now = let p = c.requires in
    record { values = c.args.values.now; addable = left_here; sum = c.sum_at-sum.ensures; over = p.over; row = p.row } in
    omega (arith, judged_room (judged))

pub bounds-part-from : goal.bounds-part-from
bounds-part-from c =
    let left_here : Addable c.args.part.now c.loop-from.from c.args.values.now = let p = c.requires in
    let r = c.loop-from.invariant.reading p.ranges p.block p.over p.left p.row in
    record { inside = c.loop-from-test.true; ranges = p.ranges; rest = r.rest; left = r.left; val = p.over.val; row = p.row.row } in
    let judged : Judged c.args.part.now c.loop-from.from c.sum_at-sum.result.terms c.sum_at-sum.result.total c.args.has.now = let p = c.requires in
    record { values = c.args.values.now; addable = left_here; sum = c.sum_at-sum.ensures; over = p.over; row = p.row } in
    judged_room (judged)

pub overflow_add-from-in-loop-from-2 : goal.overflow_add-from-in-loop-from-2
overflow_add-from-in-loop-from-2 c =
    let left_here : Addable c.args.part.now c.loop-from.from c.args.values.now = let p = c.requires in
    let r = c.loop-from.invariant.reading p.ranges p.block p.over p.left p.row in
    record { inside = c.loop-from-test.true; ranges = p.ranges; rest = r.rest; left = r.left; val = p.over.val; row = p.row.row } in
    let item-next : Next c.args.part.now c.loop-from.from (item_by c.args.part.now c.loop-from.from c.sum_at-sum.result.terms) = sum_item (left_here) c.sum_at-sum.ensures in
    let item-ahead : let at = c.loop-from.from + 4 * c.sum_at-sum.result.terms in (c.loop-from.from < at + width_by (get_or c.args.part.now at 0)) × (at + width_by (get_or c.args.part.now at 0) ≤ length c.args.part.now) = rw (sum_behind (left_here) c.sum_at-sum.ensures) at (next_ahead c.loop-from-test.true (item-next)) in
    omega (arith, c.width.ensures, item-ahead)

pub loop-from-smaller : goal.loop-from-smaller
loop-from-smaller c =
    let left_here : Addable c.args.part.now c.loop-from.from c.args.values.now = let p = c.requires in
    let r = c.loop-from.invariant.reading p.ranges p.block p.over p.left p.row in
    record { inside = c.loop-from-test.true; ranges = p.ranges; rest = r.rest; left = r.left; val = p.over.val; row = p.row.row } in
    let item-next : Next c.args.part.now c.loop-from.from (item_by c.args.part.now c.loop-from.from c.sum_at-sum.result.terms) = sum_item (left_here) c.sum_at-sum.ensures in
    let item-ahead : let at = c.loop-from.from + 4 * c.sum_at-sum.result.terms in (c.loop-from.from < at + width_by (get_or c.args.part.now at 0)) × (at + width_by (get_or c.args.part.now at 0) ≤ length c.args.part.now) = rw (sum_behind (left_here) c.sum_at-sum.ensures) at (next_ahead c.loop-from-test.true (item-next)) in
    omega (arith, c.width.ensures, item-ahead)

pub loop-from-preserved : goal.loop-from-preserved
loop-from-preserved c =
    let left_here : Addable c.args.part.now c.loop-from.from c.args.values.now = let p = c.requires in
    let r = c.loop-from.invariant.reading p.ranges p.block p.over p.left p.row in
    record { inside = c.loop-from-test.true; ranges = p.ranges; rest = r.rest; left = r.left; val = p.over.val; row = p.row.row } in
    let item-next : Next c.args.part.now c.loop-from.from (item_by c.args.part.now c.loop-from.from c.sum_at-sum.result.terms) = sum_item (left_here) c.sum_at-sum.ensures in
    let same : to_z w64 (of_z w64 c.sum_at-sum.result.total) ≡ c.sum_at-sum.result.total = back_small c.sum_at-sum.result.total (omega (arith, c.sum_at-sum.ensures.sum.small)) in
    let verdict : Verdict c.args.part.now c.args.has.now c.args.values.now c.fails.result (item_by c.args.part.now c.loop-from.from c.sum_at-sum.result.terms) = (rw (same) at c.fails.ensures).is _ c.sum_at-sum.ensures in
    rw (c.width.ensures, sym (sum_behind (left_here) c.sum_at-sum.ensures))
    (walk_next (Over _ _) Asked c.loop-from.invariant c.loop-from-test.true (item-next) ((verdict).1 c.if-fails.false))

pub returns : goal.returns
unfolding applicable all
returns c = record { is = walk_done (Over _ _) Asked c.loop-from.invariant c.loop-from-test.false (λ s. refl) }
