-- `load_truths` meets its contract. The invariant: the truths passed are written.
-- Assumes nothing.
use Rattle.model.specs.StateTable.{state_of}
use Rattle.state.specs.Loading.{Written}
use Rattle.state.proofs.load_truths.Given as goal

abbrev pub invariant-loop-p : goal.invariant-loop-p
invariant-loop-p l = Written (state_of l.props l.state).has l.props l.initial.has l.has l.p
