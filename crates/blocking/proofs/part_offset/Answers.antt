-- `part_offset` meets its contract. Assumes nothing.
use native.Mathlib.Omega.{arith}
use mathlib.Core.Path.{refl}
use Rattle.stored_layer.specs.Stored.{stored_props, stored_vars, stored_entries, stored_room}
use Rattle.layers.specs.Goal.{goal_part, goal_testable}
use Rattle.blocking.specs.Unmet.{goal_read, part_inside, is_part}
use Rattle.blocking.proofs.part_offset.Goals as goal

pub read_entries-requires : goal.read_entries-requires
read_entries-requires c =
    let x = c.requires.memory in
    (omega (arith, stored_entries x), stored_props x, omega (arith, x.bounded), refl)

pub overflow_mul-vars : goal.overflow_mul-vars
overflow_mul-vars c = omega (arith, stored_room c.requires.memory {t = c.args.t} (omega arith))

pub overflow_add-props-2 : goal.overflow_add-props-2
overflow_add-props-2 c = omega (arith, stored_room c.requires.memory {t = c.args.t} (omega arith))

pub read_row-requires : goal.read_row-requires
read_row-requires c = let x = c.requires.memory in (stored_room x (omega arith), stored_vars x, refl)

pub part-requires : goal.part-requires
part-requires c =
    let p = c.requires in
    goal_part (goal_read p.outlined p.memory c.read_entries.ensures c.read_row.ensures)

pub unmet-requires : goal.unmet-requires
unmet-requires c =
    let p = c.requires in
    goal_testable (goal_read p.outlined p.memory c.read_entries.ensures c.read_row.ensures) c.part.ensures.0

pub overflow_add-offset : goal.overflow_add-offset
overflow_add-offset c =
    let p = c.requires in
    omega (arith, part_inside p.outlined p.memory c.read_entries.ensures c.read_row.ensures c.part.ensures.0 c.unmet.ensures)

pub returns : goal.returns
returns c = is_part c.read_entries.ensures c.read_row.ensures c.part.ensures.0 c.unmet.ensures
