-- The order of values and of layers: sums, conditions and an effect's value never fall when a layer rises, and a state seen as a
-- layer has the same sums and conditions as the state. Assumes nothing.
use Rattle.std.specs.Prelude.{ℕ, Bool, true, false, T}
use Rattle.std.specs.Int.Signed.{le_z}
use Rattle.model.specs.Layer.{Value, finite, unbounded, Layer}

-- ---- the order of values: numbers as they are ordered, "unbounded .. above every number"

abbrev pub is_below : Value → Value → Bool
is_below (finite a) (finite b) = le_z a b
is_below (finite a) unbounded = true
is_below unbounded (finite b) = false
is_below unbounded unbounded = true

infix 50 ◌⊑◌
pub record ◌⊑◌ (x y : Value) : Type 0 where
  pub below : T (is_below x y)

-- ---- the order of layers: more propositions, higher values
infix 50 ◌≼◌
pub record ◌≼◌ (l k : Layer) : Type 0 where
  pub has : (p : ℕ) → T (l.has p) → T (k.has p)
  pub val : (v : ℕ) → l.val v ⊑ k.val v
