-- The moves that support a want: one is always found, its runs reach the target, and their number is at least 1
-- (document 01, "Plan"). Assumes nothing.
use Prim.Native.Nat.{ℕ, zero, suc}
use Rattle.model.specs.Task.{Block}
use Rattle.model.specs.Move.{State, relaxed}

-- ---- runs of a move
-- a move run n times in a row
unfoldable pub repeated : ℕ → Block → State → State
repeated zero b s = s
repeated (suc n) b s = repeated n b (relaxed b s)
