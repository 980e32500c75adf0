-- `copy_row` meets its contract. Assumes nothing.
use native.Mathlib.Omega.{arith}
use lib.IntN.{ℤ, pos}
use Rattle.std.proofs.Common.{length-take}
use Rattle.std.proofs.lemmas.List.{get_or-take}
use Rattle.layer_memory.specs.Filling.{row_at, filled_front}
use Rattle.layer_memory.proofs.copy_row.Goals as goal

pub returns : goal.returns
unfolding row_at
returns c =
    let a = c.args in
    filled_front _ c.requires.1 (omega (arith, c.copy_from_slice.ensures.len, length-take {A = ℤ}))
    (λ i h. rw c.copy_from_slice.ensures.after (get_or-take a.vars a.row.now i (pos 0) h))
