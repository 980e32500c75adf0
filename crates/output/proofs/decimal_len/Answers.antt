-- `decimal_len` meets its contract. The invariant: the digits passed are counted. The measure is the number that is left.
-- Assumes nothing.
use native.Mathlib.Omega.{arith}
use Rattle.model.proofs.Theorems.Printing.Decimals.{decimal_word}
use Rattle.output.specs.Digits.{counted_none, counted_next, counted_all}
use Rattle.output.proofs.decimal_len.Goals as goal

pub loop-rest-init : goal.loop-rest-init
loop-rest-init c = counted_none _

pub overflow_add-width : goal.overflow_add-width
overflow_add-width c = omega (arith, decimal_word c.args.n (omega arith))

pub loop-rest-preserved : goal.loop-rest-preserved
loop-rest-preserved c = counted_next c.loop-rest.invariant (omega arith)

pub returns : goal.returns
returns c = counted_all c.loop-rest.invariant (omega arith)
