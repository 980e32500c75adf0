-- `all_within` meets its contract. The invariant: the first `v` are within the limit. Assumes nothing.
use Rattle.layer_checks.specs.Comparing.{within_at, Passing}
use Rattle.layer_checks.proofs.all_within.Given as goal

abbrev pub invariant-loop-v : goal.invariant-loop-v
invariant-loop-v l = Passing (within_at l.row) l.vars l.v
