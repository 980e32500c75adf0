-- Sizes of the numbers of a layer without a finite value above 1,000,000,000,000 (document 01, refusal 15): its values, its sums
-- and its effects' values, and those of the next layer before it is checked. All stay far within 64 bits. Assumes nothing.
use Rattle.std.specs.Prelude.{ℕ, ◌<◌, ℤ}
use Rattle.model.specs.Layer.{Value, finite, unbounded, Layer}
use Rattle.model.specs.Theorems.Sizes.Bounds.{Between}

-- ---- values of a layer

-- P holds of the value if it is finite
abbrev pub IfFinite : (ℤ → Type 0) → Value → Type 0
IfFinite P (finite z) = P z
IfFinite P unbounded = Unit {0}

-- a value that is unbounded, or from −low to high
pub record FiniteBetween (low high : ℕ) (x : Value) : Type 0 where
  pub if_finite : IfFinite (Between low high) x

-- a layer whose finite values at the table's variables are from −1,000,000 to 1,000,000,000,000
pub record SmallLayer (vars : ℕ) (l : Layer) : Type 0 where
  pub values : (v : ℕ) → v < vars → FiniteBetween 1_000_000 1_000_000_000_000 (l.val v)
