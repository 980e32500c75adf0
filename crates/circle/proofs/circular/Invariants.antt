-- `circular` meets its contract. After each round a variable is alive if a walk of that many edges ends in it.
-- Assumes nothing.
use Rattle.circle.specs.Pruning.{Pruned}
use Rattle.circle.proofs.circular.Given as goal

abbrev pub invariant-loop-round : goal.invariant-loop-round
invariant-loop-round l = Pruned l.edges l.n l.round l.alive
