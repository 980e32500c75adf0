-- Refusal 7 means what it says: the check `circular` finds a closed walk along the edges of := effects exactly where there is
-- one. Where there is none, each variable has a rank that every edge raises. Assumes nothing.
use Prim.Native.Nat.{ℕ, suc, ◌<◌}
use Rattle.std.proofs.Math.Dec.{T}
use Rattle.model.specs.Task.{Task}
use Rattle.model.specs.Circle.{edge, walk_to}
use Rattle.model.specs.Theorems.Laws.Counting.{count}

-- all edges run between the task's variables
pub record EdgesWithin (k : Task) : Type 0 where
  pub source : (u v : ℕ) → T (edge k u v) → u < k.vars
  pub target : (u v : ℕ) → T (edge k u v) → v < k.vars

-- ---- the rank
-- the length of the longest walk to v: how many lengths above 0 the walks to v have
unfoldable pub rank : Task → ℕ → ℕ
rank k v = count (λ n. walk_to k (suc n) v) k.vars
