-- `put_table` meets its contract: the head, the moves, the goal, the end. Assumes nothing.
use native.Mathlib.Omega.{arith}
use Rattle.model.specs.Command.{code_of}
use Rattle.reader.specs.Written.{read_task, goal_remaining, few_props, few_vars, few_moves}
use Rattle.normal.specs.Tables.{whole_short, whole_written}
use Rattle.normal.proofs.put_table.Goals as goal

pub put_head-start-requires : goal.put_head-start-requires
put_head-start-requires c =
    let p = c.requires.0 in
    (omega (arith, few_props p, c.requires.1.props_is), omega (arith, few_vars p, c.requires.1.vars_is), few_moves p)

pub put_moves-goal-requires : goal.put_moves-goal-requires
put_moves-goal-requires c = (c.requires.0, omega (arith, whole_short c.requires.0, c.put_head-start.ensures.behind))

pub put_block-end-requires : goal.put_block-end-requires
put_block-end-requires c =
    record {
      block = (read_task c.args.blocks.now.table.now).goal;
      remaining = goal_remaining c.requires.0 c.part.ensures.0;
      short = omega (arith, whole_short c.requires.0, c.put_head-start.ensures.behind, c.put_moves-goal.ensures.behind);
    }

pub put_byte-requires : goal.put_byte-requires
put_byte-requires c =
    let goal = c.put_block-end.ensures _ (goal_remaining c.requires.0 c.part.ensures.0) in
    omega (arith, whole_short c.requires.0, c.put_head-start.ensures.behind, c.put_moves-goal.ensures.behind, goal.behind)

pub returns : goal.returns
unfolding code_of
returns c =
    whole_written _ c.requires.1.props_is c.requires.1.vars_is c.requires.0.count
    c.put_head-start.ensures
    c.put_moves-goal.ensures
    (c.put_block-end.ensures _ (goal_remaining c.requires.0 c.part.ensures.0))
    c.put_byte.ensures
