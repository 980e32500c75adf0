-- `same_truths` meets its contract. The invariant: the first `p` are the same. Assumes nothing.
use Rattle.layer_checks.specs.Comparing.{same_truth, Passing}
use Rattle.layer_checks.proofs.same_truths.Given as goal

abbrev pub invariant-loop-p : goal.invariant-loop-p
invariant-loop-p l = Passing (same_truth l.has l.next) l.props l.p
