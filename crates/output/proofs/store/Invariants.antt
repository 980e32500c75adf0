-- `store` meets its contract. The invariant: the first `i` bytes are stored. Assumes nothing.
use Rattle.std.specs.Prelude.{◌≡◌, take}
use Rattle.integer.specs.Store.{put}
use Rattle.output.proofs.store.Given as goal

abbrev pub invariant-loop-i : goal.invariant-loop-i
invariant-loop-i l = l.out ≡ put l.initial.out l.at (take l.i l.word)
