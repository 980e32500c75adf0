-- `put_moves` meets its contract. The invariant: the moves before `b` are written. Assumes nothing.
use native.Mathlib.Omega.{arith}
use Rattle.block.specs.Items.{readable}
use Rattle.rewrite.specs.Stored.{stored_task, moves_start, moves_short, moves_step, moves_end, short, part_short, table_size, move_in, move_bytes}
use Rattle.rewrite.proofs.put_moves.Goals as goal

pub loop-b-init : goal.loop-b-init
loop-b-init c = let a = c.args in moves_start (stored_task a.blocks.now.table.now).moves a.out.now a.start

pub put_kept-to-requires : goal.put_kept-to-requires
put_kept-to-requires c =
    let h = c.requires.0 in
    let n = c.loop-b.b in
    (readable (move_in h n c.loop-b-test.true c.part.ensures.0), omega (arith, moves_short c.loop-b.invariant, table_size h, short h, part_short h n (omega arith) c.part.ensures.0))

pub loop-b-preserved : goal.loop-b-preserved
loop-b-preserved c =
    let h = c.requires.0 in
    let n = c.loop-b.b in
    let e = c.part.ensures.0 in
    moves_step c.loop-b.invariant (omega (arith, c.loop-b-test.true, h.count))
    (c.put_kept-to.ensures.is _ _ (move_in h n c.loop-b-test.true e) (move_bytes h n c.loop-b-test.true e))

pub returns : goal.returns
returns c = moves_end c.loop-b.invariant (omega (arith, c.loop-b-test.false, c.requires.0.count))
