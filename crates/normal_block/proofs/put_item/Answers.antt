-- `put_item` meets its contract, by the kind of the item. Assumes nothing.
use native.Mathlib.Omega.{arith}
use mathlib.Core.Path.{sym, ap, subst}
use Rattle.integer.specs.Linear.{back_small}
use Rattle.model.specs.Command.{code_of}
use Rattle.output.specs.Writing.{written_same, written_none}
use Rattle.block.specs.Remaining.{Writable}
use Rattle.normal_block.specs.Blocks.{print_of}
use Rattle.normal_block.proofs.put_item.Goals as goal

pub returns-in-Need : goal.returns-in-Need
unfolding print_of code_of
returns-in-Need c = written_same c.put_pair.ensures (sym (ap (print_of c.args.part.now) c.in-Need.is))

pub returns-in-Add : goal.returns-in-Add
unfolding print_of code_of
returns-in-Add c = written_same c.put_pair-in-Add.ensures (sym (ap (print_of c.args.part.now) c.in-Add.is))

pub returns-in-Delete : goal.returns-in-Delete
unfolding print_of code_of
returns-in-Delete c = written_same c.put_pair-in-Delete.ensures (sym (ap (print_of c.args.part.now) c.in-Delete.is))

pub returns-in-Condition : goal.returns-in-Condition
unfolding print_of
returns-in-Condition c =
    let e = c.in-Condition.is in
    let w = subst (Writable c.args.part.now) e c.requires.0 in
    written_same (rw (back_small c.in-Condition.bound (omega (arith, w.bound))) at c.put_comparison.ensures)
    (sym (ap (print_of c.args.part.now) e))

pub returns-in-Effect : goal.returns-in-Effect
unfolding print_of
returns-in-Effect c =
    let e = c.in-Effect.is in
    let w = subst (Writable c.args.part.now) e c.requires.0 in
    written_same (rw (back_small c.in-Effect.base (omega (arith, w.base))) at c.put_kind.ensures)
    (sym (ap (print_of c.args.part.now) e))

pub returns-in-End : goal.returns-in-End
unfolding print_of
returns-in-End c = written_same (written_none c.args.out.now c.args.at) (sym (ap (print_of c.args.part.now) c.in-End.is))
