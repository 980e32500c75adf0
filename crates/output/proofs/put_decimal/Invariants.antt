-- `put_decimal` meets its contract. The invariant: the digits behind the `nth` from the end are stored. The measure is the
-- number that is left. Assumes nothing.
use Rattle.output.specs.Digits.{Stored}
use Rattle.output.proofs.put_decimal.Given as goal

abbrev pub invariant-loop-rest : goal.invariant-loop-rest
invariant-loop-rest l = Stored l.initial.out l.at l.n l.width l.out l.rest l.nth

abbrev pub decreases-loop-rest : goal.decreases-loop-rest
decreases-loop-rest l = l.rest
