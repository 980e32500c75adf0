-- `put_decimal` meets its contract. The invariant: the digits behind the `nth` from the end are stored. The measure is the
-- number that is left. Assumes nothing.
use native.Mathlib.Omega.{arith}
use Rattle.output.specs.Writing.{written_not}
use Rattle.output.specs.Digits.{stored_none, stored_length, nth_in, stored_next, stored_all}
use Rattle.output.proofs.put_decimal.Goals as goal

pub returns-then-out-next : goal.returns-then-out-next
returns-then-out-next c = written_not _ (omega arith) (omega arith)

pub loop-rest-init : goal.loop-rest-init
loop-rest-init c =
    let a = c.args in
    stored_none a.out.now a.at a.n c.decimal_len-width.result c.decimal_len-width.ensures (omega arith)

pub overflow_sub-out : goal.overflow_sub-out
overflow_sub-out c = omega (arith, nth_in c.loop-rest.invariant)

pub bounds-out-at : goal.bounds-out-at
bounds-out-at c = omega (arith, nth_in c.loop-rest.invariant, stored_length c.loop-rest.invariant)

pub overflow_add-nth : goal.overflow_add-nth
overflow_add-nth c = omega (arith, nth_in c.loop-rest.invariant)

pub loop-rest-preserved : goal.loop-rest-preserved
loop-rest-preserved c = stored_next c.loop-rest.invariant (omega arith)

pub overflow_sub-out-2 : goal.overflow_sub-out-2
overflow_sub-out-2 c = omega (arith, nth_in c.loop-rest.invariant)

pub bounds-out-at-2 : goal.bounds-out-at-2
bounds-out-at-2 c = omega (arith, nth_in c.loop-rest.invariant, stored_length c.loop-rest.invariant)

pub returns : goal.returns
returns c = stored_all c.loop-rest.invariant (omega arith)
