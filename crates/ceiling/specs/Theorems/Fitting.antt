-- How many layers fit: the largest layer that so many numbers hold, for given P, A and N; what 14 and an answer say of the memory; decide
-- and plan under a ceiling start from a task within it. Assumes nothing.
use Rattle.std.specs.Prelude.{ℕ, ◌+◌, ◌-◌, ◌/◌}

-- ---- the largest layer that fits

-- of N variables, at least one, in a memory that holds layer 0
unfoldable pub last_fitting : ℕ → ℕ → ℕ → ℕ → ℕ
last_fitting numbers props moves vars = (numbers - (props + moves)) / vars - 1
