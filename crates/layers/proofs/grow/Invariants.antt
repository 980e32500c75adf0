-- `grow` meets its contract. The invariant: layer `t` is the last one stored, and stands in `layer`; the moves marked as used are
-- usable in it. The measure is what is left of the bound on layers. Assumes nothing.
use Prim.Native.Nat.{◌-◌}
use mathlib.Core.Path.{◌≡◌}
use lib.ListN.{length}
use Rattle.model.specs.Layer.{bound}
use Rattle.layers.specs.Building.{Growing}
use Rattle.layers.proofs.grow.Given as goal

abbrev pub invariant-loop-layer : goal.invariant-loop-layer
invariant-loop-layer l = record {
  used_long : length l.used ≡ 64;
  growing : Growing l.blocks.table.now l.blocks.marks.now l.blocks.props l.blocks.vars l.blocks.moves l.initial.layer.has l.initial.layer.row l.initial.layers l.t l.layer.has l.layer.row l.used l.layers l.end;
}

abbrev pub decreases-loop-layer : goal.decreases-loop-layer
decreases-loop-layer l = bound l.blocks.moves l.blocks.vars - l.t
