-- `same_row` meets its contract. The invariant: the first `v` are not above. Assumes nothing.
use Rattle.layer_checks.specs.Comparing.{not_above, Passing}
use Rattle.layer_checks.proofs.same_row.Given as goal

abbrev pub invariant-loop-v : goal.invariant-loop-v
invariant-loop-v l = Passing (not_above l.row l.next) l.vars l.v
