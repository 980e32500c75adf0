-- Sizes of targets: what is wanted for a sum, a condition or a block in a layer with small values is a target from
-- −9,000,000,000,000,000 up to a bound that is at least 1,000,000,000,000 and 8,000,000,000 more than the number that the sum has
-- to reach (document 01, "Plan"). Assumes nothing.
use Rattle.std.specs.Prelude.{ℕ, ◌+◌, ◌*◌, ℤ}
use Rattle.model.specs.Plan.{Wants}
use Rattle.model.specs.Theorems.Plans.Targets.{Each}
use Rattle.model.specs.Theorems.Sizes.Bounds.{Between}

-- ---- wants with small targets

-- every target is at most `high`, and at least −9,000,000,000,000,000
pub record SmallWants (high : ℕ) (w : Wants) : Type 0 where
  pub each : Each (λ (p : ℕ). Unit {0}) (λ (v : ℕ) (z : ℤ). Between 9_000_000_000_000_000 high z) w

-- what is left to reach, of a number from −2,000,000 to b, when i terms with finite values have given their parts
pub record Remaining (b i : ℕ) (c : ℤ) : Type 0 where
  pub between : Between (2_000_000 + i * 1_000_000_000_000_000) (b + i * 1_000_000_000) c
