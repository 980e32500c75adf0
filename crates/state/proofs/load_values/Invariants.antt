-- `load_values` meets its contract. The invariant: the values passed are written.
-- Assumes nothing.
use Rattle.model.specs.StateTable.{state_value}
use Rattle.state.specs.Loading.{Written}
use Rattle.state.proofs.load_values.Given as goal

abbrev pub invariant-loop-v : goal.invariant-loop-v
invariant-loop-v l = Written (state_value l.props l.state) l.vars l.initial.values l.values l.v
