-- The decimal digits of a number: they stand for it, each is one of the ten ASCII digits, none is a leading zero, and the turns
-- that the definition is given always suffice. Assumes nothing.
use Rattle.std.specs.Prelude.{ℕ, ◌+◌, ◌*◌, ◌-◌, ◌≤◌}
use mathlib.Core.List.{List, [], ◌∷◌}

-- an ASCII digit, "0" to "9"
abbrev pub Digit : ℕ → Type 0
Digit d = (48 ≤ d) × (d ≤ 57)

-- ---- what digits stand for
-- digits read from the left, after what stands before them
unfoldable pub value_after : ℕ → List ℕ → ℕ
value_after n [] = n
value_after n (d ∷ ds) = value_after (10 * n + (d - 48)) ds

unfoldable pub value_of : List ℕ → ℕ
value_of ds = value_after 0 ds
