-- The records of a plan: in rising order, so at most one for a move in a layer, each with a count of 1 or more; layer by layer, with the
-- wants of each (document 01, "Plan"). Assumes nothing.
use Prim.Native.Nat.{ℕ, suc, ◌≤◌, ◌<◌}
use Rattle.std.specs.Prelude.{◌≡◌, List, [], ◌∷◌}
use Rattle.model.specs.Task.{Task}
use Rattle.model.specs.Move.{State}
use Rattle.model.specs.Layer.{layer_at}
use Rattle.model.specs.Plan.{Descent, descend, Record, wants_at}
use Rattle.model.specs.Theorems.Reading.WellFormed.{All}

-- ---- "layers rising, then moves"

pub record Before (r q : Record) : Type 0 where
  pub layers : r.layer ≤ q.layer
  pub moves : r.layer ≡ q.layer → r.move < q.move

abbrev pub RisingRecords : List Record → Type 0
RisingRecords [] = Unit {0}
RisingRecords (r ∷ rs) = All (Before r) rs × RisingRecords rs

-- a record of layer t with a move from low on and below high, and a count of 1 or more
pub record Entry (t low high : ℕ) (r : Record) : Type 0 where
  pub layer : r.layer ≡ t
  pub from : low ≤ r.move
  pub to : r.move < high
  pub count : 1 ≤ r.count

-- a record of a plan with so many layers and moves
pub record Bounded (layers moves : ℕ) (r : Record) : Type 0 where
  pub layer : r.layer < layers
  pub move : r.move < moves
  pub count : 1 ≤ r.count

-- ---- the wants and the records of each layer
-- from the wants of layer u + 1 to those of layer u, with the counts of the moves taken in layer u
unfoldable pub descent_at : Task → State → ℕ → ℕ → Descent
descent_at k s m u = descend k (layer_at k s u) s (wants_at k s m (suc u))
