-- `descend` meets its contract. Assumes nothing.
use Prim.Native.Nat.{◌-◌}
use native.Mathlib.Omega.{arith}
use mathlib.Core.Path.{refl}
use Rattle.stored_layer.specs.Stored.{stored_props, stored_vars, stored_moves, stored_entries, stored_room}
use Rattle.descent.specs.Layers.{layer_carriable, layer_props, layer_values, layer_descended}
use Rattle.descent.proofs.descend.Goals as goal

pub overflow_sub-lower : goal.overflow_sub-lower
overflow_sub-lower c = omega (arith, c.requires.1)

pub read_entries-requires : goal.read_entries-requires
read_entries-requires c =
    let p = c.requires in
    (omega (arith, stored_entries p.0.stored.memory), stored_props p.0.stored.memory, omega (arith, p.0.below, p.0.stored.memory.bounded), refl)

pub read_entries-requires-2 : goal.read_entries-requires-2
read_entries-requires-2 c =
    let p = c.requires in
    (stored_entries p.0.stored.memory, omega (arith, stored_moves p.0.stored.memory), omega (arith, p.0.below, p.0.stored.memory.bounded), refl)

pub overflow_mul-vars : goal.overflow_mul-vars
overflow_mul-vars c =
    let p = c.requires.0 in
    omega (arith, stored_room p.stored.memory {t = c.args.t - 1} (omega (arith, p.below)))

pub overflow_add-props-2 : goal.overflow_add-props-2
overflow_add-props-2 c =
    let p = c.requires.0 in
    omega (arith, stored_room p.stored.memory {t = c.args.t - 1} (omega (arith, p.below)))

pub read_row-requires : goal.read_row-requires
read_row-requires c =
    let p = c.requires.0 in
    (stored_room p.stored.memory (omega (arith, p.below)), stored_vars p.stored.memory, refl)

pub low_row-requires : goal.low_row-requires
low_row-requires c =
    let p = c.requires.0 in
    (omega (arith, stored_vars p.stored.memory, c.read_row.ensures.long), omega (arith, p.start_is.long, p.stored.memory.vars_is), stored_vars p.stored.memory, refl)

pub carry_down-carried-requires : goal.carry_down-carried-requires
carry_down-carried-requires c =
    layer_carriable c.requires.0 c.read_entries.ensures c.read_entries-2.ensures c.read_row.ensures c.low_row.ensures

pub take_props-taken-requires : goal.take_props-taken-requires
take_props-taken-requires c =
    let x = c.requires.0 in
    let has = c.read_entries.ensures in
    let used = c.read_entries-2.ensures in
    let row = c.read_row.ensures in
    let lows = c.low_row.ensures in
    layer_props x has used row lows (c.carry_down-carried.ensures (layer_carriable x has used row lows))

pub take_values-requires : goal.take_values-requires
take_values-requires c =
    let x = c.requires.0 in
    let has = c.read_entries.ensures in
    let used = c.read_entries-2.ensures in
    let row = c.read_row.ensures in
    let lows = c.low_row.ensures in
    let kept = c.carry_down-carried.ensures (layer_carriable x has used row lows) in
    layer_values x has used row lows kept (c.take_props-taken.ensures (layer_props x has used row lows kept))

pub returns : goal.returns
returns c x =
    let has = c.read_entries.ensures in
    let used = c.read_entries-2.ensures in
    let row = c.read_row.ensures in
    let lows = c.low_row.ensures in
    let kept = c.carry_down-carried.ensures (layer_carriable x has used row lows) in
    let done = c.take_props-taken.ensures (layer_props x has used row lows kept) in
    layer_descended x has used row lows kept done (c.take_values.ensures (layer_values x has used row lows kept done))
