-- `put_values` meets its contract. The invariant: the values before `v` are written. Assumes nothing.
use Rattle.model.specs.StateTable.{state_of}
use Rattle.pddl_text.specs.Documents.{value_row}
use Rattle.pddl_sum.specs.Names.{EachWriting}
use Rattle.pddl_text.proofs.put_values.Given as goal

abbrev pub invariant-loop-v : goal.invariant-loop-v
invariant-loop-v l = EachWriting (value_row (state_of l.props l.state)) l.vars l.v l.initial.out l.at l.out l.to
