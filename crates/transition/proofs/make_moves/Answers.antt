-- `make_moves` meets its contract. The invariant: the entries so far are made, and the arrays hold the state after them. Assumes nothing.
use Rattle.transition.specs.Entries.{making_start, making_turnable, making_ended, making_made, making_fails}
use Rattle.transition.proofs.make_moves.Goals as goal

pub loop-index-init : goal.loop-index-init
loop-index-init c = making_start _ _ _ _ _ _ _ _ _ _

pub make_move-requires : goal.make_move-requires
make_move-requires c = making_turnable _ _ _ _ _ _ _ _ _ _ c.loop-index.invariant c.requires

pub loop-index-preserved : goal.loop-index-preserved
loop-index-preserved c = making_made _ _ _ _ _ _ _ _ _ _ c.loop-index.invariant c.loop-index-test.true c.make_move.ensures c.in_default.is

pub returns-in-Err : goal.returns-in-Err
returns-in-Err c = making_fails _ _ _ _ _ _ _ _ _ _ c.loop-index.invariant c.loop-index-test.true c.make_move.ensures c.in-Err.is

pub returns : goal.returns
returns c = making_ended _ _ _ _ _ _ _ _ _ _ c.loop-index.invariant c.loop-index-test.false
