-- Quiet layers: while the steps of a normal table make no move usable and no variable unbounded, the values come to rest in the
-- order of the rank that the missing := circle gives the variables, and after N + 1 such steps the layer stays. Assumes nothing.
use Prim.Native.Nat.{ℕ, ◌<◌}
use Rattle.std.specs.Prelude.{[], length, get_or}
use Rattle.std.proofs.Math.Dec.{T}
use Rattle.model.specs.Limits.{Limits}
use Rattle.model.specs.Task.{normal, Item, Task}
use Rattle.model.specs.Layer.{unbounded, Layer, usable, next}
use Rattle.model.specs.Circle.{item_edge, edge}
use Rattle.model.specs.Theorems.Reading.WellFormed.{ItemOk}
use Rattle.model.specs.Theorems.Layers.Order.{◌⊑◌}

-- ---- the edges of a move's effect

-- what is known of a move's item: its checks, and that its edges are edges of the task
pub record Known (L : Limits) (k : Task) (i : Item) : Type 0 where
  pub checked : ItemOk L normal k.props k.vars i
  pub drawn : (u v : ℕ) → T (item_edge u v i) → T (edge k u v)

-- ---- one step after another
-- the next layer
abbrev pub after : Task → Layer → Layer
after k l = next k.moves l

-- every move usable in the next layer is usable in l
abbrev pub NoneNew : Task → Layer → Type 0
NoneNew k l =
    (b : ℕ) → b < length k.moves → T (usable (after k l) (get_or k.moves b [])) → T (usable l (get_or k.moves b []))

-- ---- quiet layers
-- the step from l makes no move usable and no variable unbounded
pub record Quiet (k : Task) (l : Layer) : Type 0 where
  pub moves : NoneNew k l
  pub vars : (v : ℕ) → v < k.vars → unbounded ⊑ (after k l).val v → unbounded ⊑ l.val v
