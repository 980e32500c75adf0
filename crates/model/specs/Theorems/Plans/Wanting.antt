-- What is wanted of a layer for "sum ≥ c" (document 01, "Plan"), term by term: the layer meets it, every state at least as high as the
-- first that meets it has the sum, and the first unbounded term is the lowest. Assumes nothing.
use Rattle.std.specs.Prelude.{ℕ, T, ℤ, pos, ◌≤ℤ◌}
use mathlib.Core.List.{List, ◌∷◌}
use Rattle.model.specs.Task.{Term}
use Rattle.model.specs.Layer.{Layer, reaches}

-- ---- what is wanted for a sum can be had in the layer
-- Q holds of all that the layer reaches at the term's variable
abbrev pub Offered : (ℕ → ℤ → Type 0) → Layer → Term → Type 0
Offered Q l t = (z : ℤ) → T (reaches (l.val t.var) z) → Q t.var z

-- ---- meeting what is wanted is enough
-- "Normal: weights 1..1000"
abbrev pub Positive : Term → Type 0
Positive t = pos 1 ≤ℤ t.weight

-- ---- the lowest unbounded one
pub data Among (t : Term) : List Term → Type 0 where
  here : {ts : List Term} → Among t (t ∷ ts)
  there : {u : Term} {ts : List Term} → Among t ts → Among t (u ∷ ts)
