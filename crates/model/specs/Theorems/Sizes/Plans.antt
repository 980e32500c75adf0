-- Sizes over all layers of a plan: the wants of each layer on the way down from the answer layer, the records, and the places in
-- layer memory (document 01, "Plan"). The answer layer is at most 3,201, so every target and every count stays below
-- 30,000,001,000,000. Assumes nothing.
use Prim.Native.Nat.{ℕ, ◌+◌, ◌-◌, ◌*◌}

-- ---- targets and counts of all layers

-- the bound on the targets of layer u: 8,001,000,000 more for each layer down
abbrev pub highest_target : ℕ → ℕ → ℕ
highest_target m u = 1_000_000_000_000 + (m - u) * 8_001_000_000
