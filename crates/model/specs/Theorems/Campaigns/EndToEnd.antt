-- Demand 3 proved: from the bytes of an accepted written table and state to the answers; and the bound on layers for every
-- answer whatever. Assumes nothing.
use Rattle.std.specs.Prelude.{ℕ, ◌≤◌, ◌≡◌}
use mathlib.Core.List.{List}
use Rattle.std.proofs.Math.Option.{Option, none, some}
use Rattle.model.specs.Limits.{paper}
use Rattle.model.specs.Task.{normal}
use Rattle.model.specs.Layer.{bound}
use Rattle.model.specs.Reading.{Table, accepted, only, reading}

-- Apart from it, for all inputs whatever: the layers of an answer are within (A + N + 1) × (N + 1), with the counts of the head.
pub record Within (t : List ℕ) (r : ℕ) : Type 0 where
  pub table : Table
  pub read : reading paper (only normal) t ≡ accepted table
  pub bounded : r ≤ bound table.header.moves table.header.vars

abbrev pub LayersWithin : List ℕ → Option ℕ → Type 0
LayersWithin t none = Unit {0}
LayersWithin t (some r) = Within t r
