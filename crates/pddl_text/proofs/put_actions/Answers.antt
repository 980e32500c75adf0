-- `put_actions` meets its contract, move by move. Assumes nothing.
use native.Mathlib.Omega.{arith}
use Rattle.model.specs.Move.{move_at}
use Rattle.reader.specs.Written.{read_task, move_remaining, block_in}
use Rattle.pddl_sum.specs.Names.{each_start, each_room, each_step, each_end}
use Rattle.pddl_text.specs.Documents.{action_at}
use Rattle.pddl_text.proofs.put_actions.Goals as goal

pub loop-b-init : goal.loop-b-init
loop-b-init c = let k = c.args.blocks.now in each_start (action_at (read_task k.table.now)) k.moves c.args.out.now c.args.at

pub part-requires : goal.part-requires
part-requires c = block_in c.requires.0 c.loop-b.b (omega arith)

pub put_action-to-requires : goal.put_action-to-requires
unfolding action_at move_at
put_action-to-requires c =
    record {
      block = move_at (read_task c.args.blocks.now.table.now) c.loop-b.b;
      remaining = move_remaining c.requires.0 c.loop-b.b c.loop-b-test.true c.part.ensures.0;
      room = each_room c.loop-b.invariant c.loop-b-test.true c.requires.1;
    }

pub loop-b-preserved : goal.loop-b-preserved
unfolding action_at move_at
loop-b-preserved c =
    each_step c.loop-b.invariant c.loop-b-test.true
    (c.put_action-to.ensures _ (move_remaining c.requires.0 c.loop-b.b c.loop-b-test.true c.part.ensures.0))

pub returns : goal.returns
returns c = each_end c.loop-b.invariant c.loop-b-test.false
