-- The earliest start of one entry, from minute t on, in rising windows: it lies inside one window, and no start inside one is earlier.
-- Assumes nothing.
use Rattle.std.specs.Prelude.{ℕ, ◌+◌, ◌≤◌, ◌<◌, List, [], ◌∷◌}
use Rattle.placement.specs.Day.{Window}
use Rattle.placement.specs.Placement.{Inside}

-- "in rising order with no overlap; two may touch", the first opening at m or later
abbrev pub Rising : ℕ → List Window → Type 0
Rising m [] = Unit {0}
Rising m (w ∷ ws) = (m ≤ w.opening) × (w.opening < w.shutting) × Rising w.shutting ws

-- y is the earliest start of d minutes from t on
pub record Earliest (ws : List Window) (t d y : ℕ) : Type 0 where
  pub late : t ≤ y
  pub inside : Inside y (y + d) ws
  pub least : (z : ℕ) → t ≤ z → Inside z (z + d) ws → y ≤ z

-- there is none
abbrev pub NoStart : List Window → ℕ → ℕ → Type 0
NoStart ws t d = (z : ℕ) → t ≤ z → Inside z (z + d) ws → ⊥
