-- The edges of := effects, closed walks along them, and the check for refusal 7.
-- Assumes nothing.
use Rattle.std.specs.Prelude.{ℕ, zero, suc, Bool, true, false, ◌&&◌, T, eqb}
use Rattle.model.specs.Lists.{any, any_below}
use Rattle.model.specs.Task.{kept, Kind, assign, increase, decrease, Item, need, add, delete, condition, effect, Task}

unfoldable pub is_assign : Kind → Bool
is_assign assign = true
is_assign increase = false
is_assign decrease = false

-- "Draw an edge from u to v if u is in the sum of a := effect on v"; of weight 0, "It makes no := edge"
unfoldable pub item_edge : ℕ → ℕ → Item → Bool
item_edge u v (need p) = false
item_edge u v (add p) = false
item_edge u v (delete p) = false
item_edge u v (condition c) = false
item_edge u v (effect e) = is_assign e.kind && eqb e.var v && any (λ t. eqb t.var u) (kept e.terms)

unfoldable pub edge : Task → ℕ → ℕ → Bool
edge k u v = any (λ m. any (item_edge u v) m) k.moves

pub data Walk (k : Task) : ℕ → ℕ → Type 0 where
  one : {u v : ℕ} → T (edge k u v) → Walk k u v
  more : {u v w : ℕ} → T (edge k u v) → Walk k v w → Walk k u w

-- "circle": a closed walk
abbrev pub Circle : Task → Type 0
Circle k = (v : ℕ) × Walk k v v

-- does a walk of n edges end in v
unfoldable pub walk_to : Task → ℕ → ℕ → Bool
walk_to k zero v = true
walk_to k (suc n) v = any_below (λ u. elim (edge k u v) [ true ↦ walk_to k n u | false ↦ false ]) k.vars

-- the check: a walk with as many edges as there are variables meets one of them twice (`Theorems.Reading.Circles`)
unfoldable pub circular : Task → Bool
circular k = any_below (walk_to k k.vars) k.vars
