-- `read_row` meets its contract. Assumes nothing.
use Prim.Native.Nat.{◌+◌, ◌-◌}
use native.Mathlib.Omega.{arith}
use mathlib.Core.Path.{◌∙◌}
use lib.IntN.{ℤ, pos}
use lib.ListN.{drop}
use Rattle.std.proofs.lemmas.List.{get_or-take, get_or-drop}
use Rattle.std.proofs.Common.{length-take}
use Rattle.stored_layer.specs.View.{number_at, filled_front}
use Rattle.stored_layer.proofs.read_row.Goals as goal

pub returns : goal.returns
unfolding number_at
returns c =
    let a = c.args in
    let m = a.from + a.n - a.from in
    let mem = a.layers.now in
    let is = c.copy_from_slice.ensures.after in
    filled_front a.row.now _ c.requires.2 c.requires.1 (omega (arith, c.copy_from_slice.ensures.len, length-take {A = ℤ}))
    (λ i h. rw is (get_or-take m (drop a.from mem) i (pos 0) (omega arith) ∙ get_or-drop a.from mem i (pos 0)))
