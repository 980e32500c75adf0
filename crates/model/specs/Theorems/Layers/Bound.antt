-- The bound on layers: of a normal table's layers at most (A + N + 1) × (N + 1) are followed by a different one. The number of
-- usable moves and unbounded variables never falls and is at most A + N; where it stands still over N + 1 steps, the layer
-- stays (`Quiet`). For all N, 0 too. Assumes nothing.
use Prim.Native.Nat.{ℕ, ◌+◌}
use Rattle.std.specs.Prelude.{Bool, [], get_or}
use Rattle.std.proofs.Math.ListN.{length}
use Rattle.model.specs.Task.{Task}
use Rattle.model.specs.Layer.{unbounded, Layer, usable}
use Rattle.model.specs.Theorems.Layers.Order.{is_below}
use Rattle.model.specs.Theorems.Laws.Counting.{count}

-- ---- the potential: the number of usable moves and unbounded variables

module _ (k : Task) (l : Layer) where
  -- are move b's conditions met, is variable v unbounded
  abbrev pub usable_move : ℕ → Bool
  usable_move b = usable l (get_or k.moves b [])

  abbrev pub unbounded_var : ℕ → Bool
  unbounded_var v = is_below unbounded (l.val v)

  unfoldable pub potential : ℕ
  potential = count usable_move (length k.moves) + count unbounded_var k.vars
