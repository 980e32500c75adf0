-- `put_truths` meets its contract. The invariant: the lines of propositions before `p` are written. Assumes nothing.
use Rattle.model.specs.StateTable.{state_of}
use Rattle.pddl_text.specs.Documents.{truth_row}
use Rattle.pddl_sum.specs.Names.{EachWriting}
use Rattle.pddl_text.proofs.put_truths.Given as goal

abbrev pub invariant-loop-p : goal.invariant-loop-p
invariant-loop-p l = EachWriting (truth_row (state_of l.props l.state)) l.props l.p l.initial.out l.at l.out l.to
