-- Sizes on the way one layer down: where the targets of layer t are at most b, those made for layer t−1 are at most
-- b + 8,001,000,000 and the counts at most b + 1,000,000, after each step of the way (document 01, "Plan"). Assumes nothing.
use Rattle.std.specs.Prelude.{ℕ, ◌+◌, ◌≤◌}
use Rattle.model.specs.Plan.{Descent}
use Rattle.model.specs.Theorems.Sizes.Targets.{SmallWants}

-- the wants and counts of one layer while they are made; b bounds the targets of the layer above
pub record SmallDescent (b : ℕ) (d : Descent) : Type 0 where
  pub wants : SmallWants (b + 8_001_000_000) d.wants
  pub count : (c : ℕ) → d.count c ≤ b + 1_000_000
