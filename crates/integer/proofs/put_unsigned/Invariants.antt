-- `put_unsigned` meets its contract. The invariant: the last `done` bytes are stored.
-- Assumes nothing.
use Rattle.integer.specs.Store.{Stored}
use Rattle.integer.proofs.put_unsigned.Given as goal

abbrev pub invariant-loop-done : goal.invariant-loop-done
invariant-loop-done l = Stored l.initial.out l.at l.n l.width l.out l.rest l.done
