-- `choose` meets its contract: the move is missing; or it is a list of one, and the state after it is stored; or why it is not made.
-- Assumes nothing.
use Rattle.std.proofs.Common.{arith}
use Rattle.output.specs.Answers.{answered_same, answered_refused}
use Rattle.transition.specs.Turns.{few_props, few_vars, few_moves}
use Rattle.transition.specs.Entries.{walked_ended, walked_stopped, one_fault}
use Rattle.transition.specs.Steps.{step_missing, step_made, step_fails}
use Rattle.transition.proofs.choose.Goals as goal

pub returns-then-chosen-blocks : goal.returns-then-chosen-blocks
returns-then-chosen-blocks c =
    rw c.refusal.ensures
    (answered_refused _ (step_missing c.requires.0 c.args.state.now c.args.chosen c.requires.1 c.if-chosen-blocks.true))

pub overflow_cast-list : goal.overflow_cast-list
overflow_cast-list c = omega (arith, c.if-chosen-blocks.false, few_moves c.requires.0)

pub returns-in-Err : goal.returns-in-Err
returns-in-Err c =
    let stopped = walked_stopped _ _ _ _ _ _ _ c.walk.ensures c.requires.0 c.in-Err.is in
    rw c.refusal-in-Err.ensures
    (answered_refused _ (step_fails c.requires.0 c.args.state.now c.args.chosen c.requires.1 (one_fault stopped)))

pub put_state-requires : goal.put_state-requires
put_state-requires c =
    let p = c.requires.0 in
    record {
      few_props = few_props p;
      few_vars = few_vars p;
      state = _;
      holds = (walked_ended _ _ _ _ _ _ _ c.walk.ensures p c.in-Ok.is).holds;
    }

pub returns-in-Ok : goal.returns-in-Ok
returns-in-Ok c =
    let p = c.requires.0 in
    answered_same c.put_state.ensures
    (step_made p c.args.state.now c.args.chosen c.requires.1 (walked_ended _ _ _ _ _ _ _ c.walk.ensures p c.in-Ok.is))
