-- `copy` meets its contract. The invariant: the first `i` bytes are copied. Assumes nothing.
use Rattle.std.specs.Prelude.{◌≡◌, take}
use Rattle.integer.specs.Store.{put}
use Rattle.integer.proofs.copy.Given as goal

abbrev pub invariant-loop-i : goal.invariant-loop-i
invariant-loop-i l = l.out ≡ put l.initial.out 0 (take l.i l.from)
