-- `put_closes` meets its contract. The invariant: a bracket for each of the other terms is left to be written. Assumes nothing.
use Rattle.std.proofs.Common.{◌-◌}
use Rattle.output.specs.Writing.{Writing}
use Rattle.pddl_sum.specs.Sums.{closes}
use Rattle.pddl_sum.proofs.put_closes.Given as goal

abbrev pub invariant-loop : goal.invariant-loop
invariant-loop l = Writing l.initial.out l.at (closes l.n) l.out l.to (closes (l.n - l.counter))
