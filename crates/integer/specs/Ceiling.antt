-- The quotient of an integer by a positive number, rounded up to a whole number: `ceiling a d` is the least q with a ≤ d · q.
-- Its laws: enough, least, the only one, and how it grows with a.
use Rattle.std.specs.Prelude.{ℕ, suc, ◌+◌, ◌-◌, ◌/◌, ℤ, pos, negsuc, neg_ℤ}

unfoldable pub ceiling : ℤ → ℕ → ℤ
ceiling (pos a) d = pos ((a + (d - 1)) / d)
ceiling (negsuc a) d = neg_ℤ (pos (suc a / d))
