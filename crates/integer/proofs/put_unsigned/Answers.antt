-- `put_unsigned` meets its contract. The invariant: the last `done` bytes are stored.
-- Assumes nothing.
use native.Mathlib.Omega.{arith}
use Rattle.integer.proofs.Store.{stored_none, stored_length, stored_next, stored_all}
use Rattle.integer.proofs.put_unsigned.Goals as goal

pub loop-done-init : goal.loop-done-init
loop-done-init c = stored_none c.requires

pub bounds-out-at : goal.bounds-out-at
bounds-out-at c = omega (arith, stored_length c.requires c.loop-done.invariant)

pub loop-done-preserved : goal.loop-done-preserved
loop-done-preserved c = stored_next c.requires (omega arith) c.loop-done.invariant

pub returns : goal.returns
returns c = stored_all c.requires c.loop-done.invariant (omega arith)
