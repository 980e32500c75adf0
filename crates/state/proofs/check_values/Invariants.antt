-- `check_values` meets its contract. The invariant: no value passed is out of range. Assumes nothing.
use Rattle.model.specs.Theorems.Laws.Searching.{Searched}
use Rattle.state.specs.Checking.{wrong_value}
use Rattle.state.proofs.check_values.Given as goal

abbrev pub invariant-loop-v : goal.invariant-loop-v
invariant-loop-v l = Searched (wrong_value l.props l.state) l.vars l.v
