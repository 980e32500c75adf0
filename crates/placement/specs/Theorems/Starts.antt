-- The starts as bytes: start i stands at byte 4 i, and every start and the end lie within the day, so that no more entries than its last
-- minute have a placement. Assumes nothing.
use Rattle.std.specs.Prelude.{ℕ, ◌≤◌, List, [], ◌∷◌}
use Rattle.placement.specs.Day.{Window}

-- ---- within the day
-- every window shuts by minute m
abbrev pub ShutBy : ℕ → List Window → Type 0
ShutBy m [] = Unit {0}
ShutBy m (w ∷ ws) = (w.shutting ≤ m) × ShutBy m ws
