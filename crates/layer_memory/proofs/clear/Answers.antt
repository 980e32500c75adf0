-- `clear` meets its contract. Assumes nothing.
use native.Mathlib.Omega.{arith}
use Prim.Native.Nat.{◌<◌}
use lib.IntN.{ℤ, pos, negsuc}
use lib.ListN.{length, take}
use Rattle.std.proofs.Common.{length-take}
use Rattle.std.proofs.lemmas.List.{get_or-replicate}
use Rattle.layer_memory.specs.Filling.{cleared, filled_front}
use Rattle.layer_memory.proofs.clear.Goals as goal

pub returns : goal.returns
unfolding cleared
returns c =
    let a = c.args in
    filled_front _ c.requires (omega (arith, c.fill.ensures.len, length-take {A = ℤ}))
    (λ i h.
    let inside : i < length (take a.n a.entries.now) = omega (arith, length-take {A = ℤ}) in
    rw (c.fill.ensures.after (λ y e. e)) (get_or-replicate _ i (negsuc 0) (pos 0) inside))
