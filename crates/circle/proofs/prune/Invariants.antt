-- `prune` meets its contract. The entries before var are filled.
-- Assumes nothing.
use Rattle.circle.specs.Pruning.{kept, Filled}
use Rattle.circle.proofs.prune.Given as goal

abbrev pub invariant-loop-var : goal.invariant-loop-var
invariant-loop-var l = Filled (kept l.edges l.alive l.n) l.var l.next
