-- The invariant of `keep_targets`: in every reading of the row, of the targets below `v` those are kept that the values reach. Assumes
-- nothing.
use Prim.Native.Nat.{ℕ}
use lib.IntN.{pos}
use Rattle.model.specs.Layer.{Value}
use Rattle.block.specs.Sums.{LayerRow}
use Rattle.targets.specs.Carrying.{Mapped, kept_at}
use Rattle.targets.proofs.keep_targets.Given as goal

abbrev pub invariant-loop-v : goal.invariant-loop-v
invariant-loop-v l = (f : ℕ → Value) → LayerRow l.vars l.row f → Mapped (pos 0) (kept_at f) l.v l.initial.target l.target
