-- `put_change` meets its contract, by the kind of the item. Assumes nothing.
use native.Mathlib.Omega.{arith}
use mathlib.Core.Path.{sym, subst}
use Rattle.integer.specs.Linear.{back_small}
use Rattle.model.specs.Ascii.{ascii}
use Rattle.block.specs.Remaining.{Writable}
use Rattle.output.specs.Writing.{written_join, written_same, written_none, room_same, room_first, room_next}
use Rattle.pddl_sum.specs.Names.{name_text}
use Rattle.pddl_block.specs.Items.{add_row, delete_row, effect_row}
use Rattle.pddl_block.proofs.Passed.{no_effect}
use Rattle.pddl_block.proofs.put_change.Goals as goal

pub put_bytes-atom-requires : goal.put_bytes-atom-requires
put_bytes-atom-requires c =
    let r = add_row c.args.line.now c.args.part.now c.in-Add.is in
    omega (arith, (room_first c.args.line.now _ (room_same c.requires.1 r)).short)

pub put_name-requires : goal.put_name-requires
unfolding ascii
put_name-requires c =
    let r = add_row c.args.line.now c.args.part.now c.in-Add.is in
    room_next (name_text (ascii "(p") _) c.put_bytes-atom.ensures (room_same c.requires.1 r)

pub put_bytes-not-requires : goal.put_bytes-not-requires
put_bytes-not-requires c =
    let r = delete_row c.args.line.now c.args.part.now c.in-Delete.is in
    omega (arith, (room_first c.args.line.now _ (room_first _ (ascii ")") (room_same c.requires.1 r))).short)

pub put_name-close-requires : goal.put_name-close-requires
unfolding ascii
put_name-close-requires c =
    let r = delete_row c.args.line.now c.args.part.now c.in-Delete.is in
    room_next (name_text (ascii "(not (p") _) c.put_bytes-not.ensures (room_first _ (ascii ")") (room_same c.requires.1 r))

pub put_byte-requires : goal.put_byte-requires
unfolding ascii
put_byte-requires c =
    let r = delete_row c.args.line.now c.args.part.now c.in-Delete.is in
    omega (arith, (room_next (ascii ")") (written_join c.put_bytes-not.ensures c.put_name-close.ensures) (room_same c.requires.1 r)).short)

pub put_bytes-change-requires : goal.put_bytes-change-requires
put_bytes-change-requires c =
    let r = effect_row c.args.line.now c.args.part.now c.in-Effect.is in
    omega (arith, (room_first c.args.line.now _ (room_same c.requires.1 r)).short)

pub put_effect-requires : goal.put_effect-requires
put_effect-requires c =
    let e = c.in-Effect.is in
    let w = subst (Writable c.args.part.now) e c.requires.0 in
    let r = effect_row c.args.line.now c.args.part.now e in
    rw (back_small c.in-Effect.base (omega (arith, w.base)))
    (w, room_next _ c.put_bytes-change.ensures (room_same c.requires.1 r))

pub returns-in-Add : goal.returns-in-Add
unfolding ascii
returns-in-Add c =
    let r = add_row c.args.line.now c.args.part.now c.in-Add.is in
    written_same (written_join c.put_bytes-atom.ensures c.put_name.ensures) (sym r)

pub returns-in-Delete : goal.returns-in-Delete
unfolding ascii
returns-in-Delete c =
    let r = delete_row c.args.line.now c.args.part.now c.in-Delete.is in
    written_same (written_join (written_join c.put_bytes-not.ensures c.put_name-close.ensures) c.put_byte.ensures) (sym r)

pub returns-in-Effect : goal.returns-in-Effect
returns-in-Effect c =
    let e = c.in-Effect.is in
    let w = subst (Writable c.args.part.now) e c.requires.0 in
    let r = effect_row c.args.line.now c.args.part.now e in
    written_same
    (written_join c.put_bytes-change.ensures (rw (back_small c.in-Effect.base (omega (arith, w.base))) at c.put_effect.ensures))
    (sym r)

pub returns-in_default : goal.returns-in_default
returns-in_default c =
    let a = c.args in
    written_same (written_none a.out.now a.at) (no_effect a.line.now a.part.now a.item c.in_default.not-Add c.in_default.not-Delete c.in_default.not-Effect)
