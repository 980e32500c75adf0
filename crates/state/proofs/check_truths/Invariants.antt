-- `check_truths` meets its contract. The invariant: no byte passed is wrong. Assumes nothing.
use Rattle.model.specs.Theorems.Laws.Searching.{Searched}
use Rattle.state.specs.Checking.{wrong_truth}
use Rattle.state.proofs.check_truths.Given as goal

abbrev pub invariant-loop-p : goal.invariant-loop-p
invariant-loop-p l = Searched (wrong_truth l.state) l.props l.p
