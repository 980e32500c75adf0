-- `sum_layer` meets its contract. The invariant: in every reading, the first `i` terms are added up, each at most 10 ^ 15 in size.
-- Assumes nothing.
use Prim.Native.Nat.{ℕ, ◌*◌, ◌≤◌}
use mathlib.Core.List.{List}
use lib.IntN.{nat_abs}
use Rattle.model.specs.Task.{Term}
use Rattle.model.specs.Layer.{Value}
use Rattle.block.specs.Items.{Ranges, Terms}
use Rattle.block.specs.Sums.{LayerRow, LayerAdding}
use Rattle.block.proofs.sum_layer.Given as goal

abbrev pub invariant-loop-i : goal.invariant-loop-i
invariant-loop-i l = (l.terms.count ≤ 8)
    × (nat_abs l.total ≤ l.i * 1000000000000000)
    × ((k : Ranges) (ts : List Term) (f : ℕ → Value) → Terms k l.terms.part.now l.terms.from l.terms.count ts → LayerRow k.vars l.layer f → LayerAdding k l.terms.part.now l.terms.from l.terms.count f ts l.i l.total)
