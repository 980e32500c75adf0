-- `decimal_len` meets its contract. The invariant: the digits passed are counted. The measure is the number that is left.
-- Assumes nothing.
use Rattle.output.specs.Digits.{Counted}
use Rattle.output.proofs.decimal_len.Given as goal

abbrev pub invariant-loop-rest : goal.invariant-loop-rest
invariant-loop-rest l = Counted l.n l.rest l.width

abbrev pub decreases-loop-rest : goal.decreases-loop-rest
decreases-loop-rest l = l.rest
