-- `put_items` meets its contract. The invariant: in every reading, the items before `at` are written. The measure is what is left
-- of the part. Assumes nothing.
use native.Mathlib.Omega.{arith}
use Rattle.block.specs.Items.{next_ahead}
use Rattle.block.specs.Remaining.{remaining_readable}
use Rattle.normal_block.specs.Blocks.{items_start, items_split, items_short, items_step, items_end}
use Rattle.normal_block.proofs.put_items.Goals as goal

pub loop-at-init : goal.loop-at-init
loop-at-init c b r = items_start c.args.out.now c.args.start r

pub next-item-requires : goal.next-item-requires
next-item-requires c = remaining_readable (c.loop-at.invariant c.requires.block c.requires.remaining).remaining

pub put_item-to-requires : goal.put_item-to-requires
put_item-to-requires c =
    let own = c.loop-at.invariant c.requires.block c.requires.remaining in
    ((items_split own c.loop-at-test.true c.next-item.ensures).writable, items_short own c.requires.short)

pub loop-at-smaller : goal.loop-at-smaller
loop-at-smaller c = omega (arith, c.behind-at.ensures, next_ahead c.loop-at-test.true c.next-item.ensures)

pub loop-at-preserved : goal.loop-at-preserved
loop-at-preserved c b r = items_step (c.loop-at.invariant b r) c.loop-at-test.true c.next-item.ensures c.put_item-to.ensures c.behind-at.ensures

pub returns : goal.returns
returns c b r = items_end (c.loop-at.invariant b r) c.loop-at-test.false
