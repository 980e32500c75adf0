-- The rig's board: 2,048 numbers hold layers up to 118 of every table; no answer reports more than 225 layers. With all of them lent, a table
-- of at most four written variables never meets 14, and any other at layer 119 or later, if at all; 36,000 bytes hold every plan. Assumes
-- nothing.
use Rattle.std.specs.Prelude.{ℕ, ◌+◌, ◌<◌, ◌≤◌, ◌≡◌}
use Rattle.std.proofs.Math.Option.{Option, none, some}
use Rattle.std.proofs.Math.ListN.{length}
use Rattle.model.specs.Task.{Task}
use Rattle.ceiling.specs.Theorems.Fitting.{last_fitting}

-- reported layers, where there are any, within so many
abbrev pub LayersAtMost : ℕ → Option ℕ → Type 0
LayersAtMost n none = Unit {0}
LayersAtMost n (some r) = r ≤ n

-- where 14 is met with all 2,048 numbers: at the first layer that they do not hold, 119 or later, with more than four written variables
pub record Late (k : Task) (m : ℕ) : Type 0 where
  pub exactly : m ≡ last_fitting 2048 k.props (length k.moves) k.vars + 1
  pub late : 119 ≤ m
  pub many : 8 < k.vars
