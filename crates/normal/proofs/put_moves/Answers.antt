-- `put_moves` meets its contract. The invariant: the moves before `b` are written. Assumes nothing.
use native.Mathlib.Omega.{arith}
use mathlib.Core.List.{[]}
use lib.ListN.{get_or}
use Rattle.model.specs.Command.{code_of}
use Rattle.reader.specs.Written.{read_task, move_remaining}
use Rattle.normal.specs.Tables.{moves_start, moves_short, moves_step, moves_end}
use Rattle.normal.proofs.put_moves.Goals as goal

pub loop-b-init : goal.loop-b-init
loop-b-init c = moves_start _ _ _

pub put_block-to-requires : goal.put_block-to-requires
put_block-to-requires c =
    record {
      block = get_or (read_task c.args.blocks.now.table.now).moves c.loop-b.b [];
      remaining = move_remaining c.requires.0 c.loop-b.b c.loop-b-test.true c.part.ensures.0;
      short = moves_short c.loop-b.invariant (omega (arith, c.loop-b-test.true, c.requires.0.count)) c.requires.1;
    }

pub loop-b-preserved : goal.loop-b-preserved
unfolding code_of
loop-b-preserved c =
    let b = c.loop-b.b in
    moves_step c.loop-b.invariant (omega (arith, c.loop-b-test.true, c.requires.0.count))
    (c.put_block-to.ensures _ (move_remaining c.requires.0 b c.loop-b-test.true c.part.ensures.0))

pub returns : goal.returns
returns c = moves_end c.loop-b.invariant (omega (arith, c.loop-b-test.false, c.requires.0.count))
