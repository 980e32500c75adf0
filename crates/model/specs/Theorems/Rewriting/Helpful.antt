-- The set of helpful moves does not see moves that do nothing: no such move is in it, and every other move is in it under its new number
-- exactly if it was under its old one; it has no other bit. Assumes nothing.
use Prim.Native.Nat.{ℕ}
use Rattle.std.specs.Prelude.{◌≡◌}
use Rattle.model.specs.Task.{Task}
use Rattle.model.specs.Move.{State}
use Rattle.model.specs.Plan.{bit, helpful_moves}

-- bit b of the one set is bit c of the other
abbrev pub SameBit : Task → Task → State → ℕ → ℕ → ℕ → Type 0
SameBit j k s m c b = bit (helpful_moves j s m) c ≡ bit (helpful_moves k s m) b
