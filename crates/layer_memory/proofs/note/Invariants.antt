-- `note` meets its contract. The invariant: the first `i` entries are noted and the others as they were. Assumes nothing.
use lib.IntN.{pos}
use Rattle.layer_memory.specs.Filling.{Filled, noted_at}
use Rattle.layer_memory.proofs.note.Given as goal

abbrev pub invariant-loop-i : goal.invariant-loop-i
invariant-loop-i l = Filled (pos 0) (noted_at l.initial.entries l.marked l.t) l.i l.initial.entries l.entries
