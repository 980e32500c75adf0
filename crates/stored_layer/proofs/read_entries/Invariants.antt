-- `read_entries` meets its contract. The invariant: the first `i` flags are read. Assumes nothing.
use mathlib.Core.Bool.{false}
use Rattle.stored_layer.specs.View.{held_at, Filled}
use Rattle.stored_layer.proofs.read_entries.Given as goal

abbrev pub invariant-loop-i : goal.invariant-loop-i
invariant-loop-i l = Filled false (held_at l.layers l.from l.t) l.i 120 l.flags
