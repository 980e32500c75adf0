-- `want_goal` meets its contract. Assumes nothing.
use native.Mathlib.Omega.{arith}
use mathlib.Core.Path.{refl}
use Rattle.stored_layer.specs.Stored.{stored_vars, stored_room}
use Rattle.descent.specs.Layers.{goal_part_in, start_long, goal_wantable, goal_wanted}
use Rattle.descent.proofs.want_goal.Goals as goal

pub overflow_mul-vars : goal.overflow_mul-vars
overflow_mul-vars c = omega (arith, stored_room c.requires.stored.memory {t = c.args.m} (omega arith))

pub overflow_add-props-2 : goal.overflow_add-props-2
overflow_add-props-2 c = omega (arith, stored_room c.requires.stored.memory {t = c.args.m} (omega arith))

pub read_row-requires : goal.read_row-requires
read_row-requires c = let p = c.requires in (stored_room p.stored.memory (omega arith), stored_vars p.stored.memory, refl)

pub low_row-requires : goal.low_row-requires
low_row-requires c =
    let p = c.requires in
    (omega (arith, stored_vars p.stored.memory, c.read_row.ensures.long), start_long p, stored_vars p.stored.memory, refl)

pub part-requires : goal.part-requires
part-requires c = goal_part_in c.requires

pub want_block-requires : goal.want_block-requires
want_block-requires c = goal_wantable c.requires c.read_row.ensures c.low_row.ensures c.part.ensures.0 c.none.ensures

pub returns : goal.returns
returns c x =
    let row = c.read_row.ensures in
    let lows = c.low_row.ensures in
    let e = c.part.ensures.0 in
    let f = c.none.ensures in
    goal_wanted x row lows e f (c.want_block.ensures (goal_wantable x row lows e f))
