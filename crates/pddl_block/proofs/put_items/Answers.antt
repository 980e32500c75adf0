-- `put_items` meets its contract, item by item. Assumes nothing.
use Rattle.std.proofs.Common.{arith}
use Rattle.block.specs.Items.{next_ahead}
use Rattle.block.specs.Remaining.{remaining_readable}
use Rattle.pddl_block.specs.Walking.{items_start, items_first, items_room, items_step, items_end}
use Rattle.pddl_block.proofs.put_items.Goals as goal

pub loop-at-init : goal.loop-at-init
loop-at-init g c text p b r = items_start text c.args.out.now c.args.start r

pub next-item-requires : goal.next-item-requires
next-item-requires g c =
    let q = c.requires in
    remaining_readable (c.loop-at.invariant q.text q.puts q.printable.block q.printable.remaining).remaining

pub put-to-requires : goal.put-to-requires
put-to-requires g c =
    let q = c.requires in
    let own = c.loop-at.invariant q.text q.puts q.printable.block q.printable.remaining in
    q.may _ _ _
    (items_first q.text q.puts.append own c.loop-at-test.true c.next-item.ensures).writable
    (items_room q.text q.puts.append own c.loop-at-test.true c.next-item.ensures q.printable.room)

pub loop-at-smaller : goal.loop-at-smaller
loop-at-smaller g c = omega (arith, c.behind-at.ensures, next_ahead c.loop-at-test.true c.next-item.ensures)

pub loop-at-preserved : goal.loop-at-preserved
loop-at-preserved g c text p b r =
    items_step text p.append (c.loop-at.invariant text p b r) c.loop-at-test.true c.next-item.ensures
    (p.writes _ _ _ _ _ c.put-to.ensures)
    c.behind-at.ensures

pub returns : goal.returns
returns g c text p b r = items_end text p.append (c.loop-at.invariant text p b r) p.none c.loop-at-test.false
