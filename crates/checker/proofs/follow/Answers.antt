-- `follow` meets its contract: the goal is tested in the state after the list, or an entry cannot be made. Assumes nothing.
use Rattle.std.proofs.Common.{arith}
use Rattle.transition.specs.Turns.{few_props, few_vars, block_in}
use Rattle.transition.specs.Entries.{walked_ended, walked_stopped}
use Rattle.checker.specs.Replies.{replied_same, replied_other, goal_in, reply_fails, reply_end}
use Rattle.checker.proofs.follow.Goals as goal

pub returns-in-Err : goal.returns-in-Err
returns-in-Err c =
    replied_other _
    (reply_fails c.requires.0 c.args.state.now c.args.list.now c.requires.1 (walked_stopped _ _ _ _ _ _ _ c.walk.ensures c.requires.0 c.in-Err.is))

pub part-goal-requires : goal.part-goal-requires
part-goal-requires c = block_in c.requires.0 c.args.blocks.now.moves (omega arith)

pub finish-requires : goal.finish-requires
finish-requires c =
    let p = c.requires.0 in
    record {
      few_props = few_props p;
      few_vars = few_vars p;
      goal = p.table.task.goal;
      stands = goal_in p c.args.state.now c.args.list.now c.part-goal.ensures.0;
      over = _;
      holds = (walked_ended _ _ _ _ _ _ _ c.walk.ensures p c.in-Ok.is).holds;
    }

pub returns-in-Ok : goal.returns-in-Ok
returns-in-Ok c =
    let p = c.requires.0 in
    let m = walked_ended _ _ _ _ _ _ _ c.walk.ensures p c.in-Ok.is in
    replied_same
    (c.finish.ensures.is p.table.task.goal _ (goal_in p c.args.state.now c.args.list.now c.part-goal.ensures.0) m.holds)
    (reply_end p c.args.state.now c.args.list.now c.requires.1 m.made)
