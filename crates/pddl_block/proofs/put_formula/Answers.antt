-- `put_formula` meets its contract, by the kind of the item. Assumes nothing.
use native.Mathlib.Omega.{arith}
use mathlib.Core.Path.{sym, subst}
use Rattle.integer.specs.Linear.{back_small}
use Rattle.model.specs.Ascii.{ascii}
use Rattle.block.specs.Remaining.{Writable}
use Rattle.output.specs.Writing.{written_join, written_same, written_none, room_same, room_first, room_next}
use Rattle.pddl_sum.specs.Names.{name_text}
use Rattle.pddl_block.specs.Items.{need_row, condition_row}
use Rattle.pddl_block.proofs.Passed.{no_condition}
use Rattle.pddl_block.proofs.put_formula.Goals as goal

pub put_bytes-atom-requires : goal.put_bytes-atom-requires
put_bytes-atom-requires c =
    let r = need_row c.args.line.now c.args.part.now c.in-Need.is in
    omega (arith, (room_first c.args.line.now _ (room_same c.requires.1 r)).short)

pub put_name-requires : goal.put_name-requires
unfolding ascii
put_name-requires c =
    let r = need_row c.args.line.now c.args.part.now c.in-Need.is in
    room_next (name_text (ascii "(p") _) c.put_bytes-atom.ensures (room_same c.requires.1 r)

pub put_bytes-compare-requires : goal.put_bytes-compare-requires
put_bytes-compare-requires c =
    let r = condition_row c.args.line.now c.args.part.now c.in-Condition.is in
    omega (arith, (room_first c.args.line.now _ (room_same c.requires.1 r)).short)

pub put_condition-requires : goal.put_condition-requires
put_condition-requires c =
    let e = c.in-Condition.is in
    let w = subst (Writable c.args.part.now) e c.requires.0 in
    let r = condition_row c.args.line.now c.args.part.now e in
    rw (back_small c.in-Condition.bound (omega (arith, w.bound)))
    (w, room_next _ c.put_bytes-compare.ensures (room_same c.requires.1 r))

pub returns-in-Need : goal.returns-in-Need
unfolding ascii
returns-in-Need c =
    let r = need_row c.args.line.now c.args.part.now c.in-Need.is in
    written_same (written_join c.put_bytes-atom.ensures c.put_name.ensures) (sym r)

pub returns-in-Condition : goal.returns-in-Condition
returns-in-Condition c =
    let e = c.in-Condition.is in
    let w = subst (Writable c.args.part.now) e c.requires.0 in
    let r = condition_row c.args.line.now c.args.part.now e in
    written_same
    (written_join c.put_bytes-compare.ensures (rw (back_small c.in-Condition.bound (omega (arith, w.bound))) at c.put_condition.ensures))
    (sym r)

pub returns-in_default : goal.returns-in_default
returns-in_default c =
    let a = c.args in
    written_same (written_none a.out.now a.at) (no_condition a.line.now a.part.now a.item c.in_default.not-Need c.in_default.not-Condition)
