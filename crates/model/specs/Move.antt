-- Real and relaxed moves, and what it means that a list of moves solves a task (document 01, "Moves").
-- Values are unlimited whole numbers. Assumes nothing.
use Rattle.std.specs.Prelude.{ℕ, ◌<◌, Bool, true, ◌&&◌, ◌||◌, not, List, [], ◌∷◌, T, ℤ, pos, ◌+ℤ◌, ◌-ℤ◌, ◌*ℤ◌, length, get_or}
use Rattle.std.proofs.Math.Option.{Option, none, some}
use Rattle.std.specs.Int.Signed.{le_z, lt_z}
use Rattle.integer.specs.Linear.{larger}
use Rattle.model.specs.Lists.{all}
use Rattle.model.specs.Task.{Term, Comparison, at_least, above, at_most, below, equal, Kind, assign, increase, decrease, Effect, Item, need, add, delete, condition, effect, Block, Task, adds, deletes, effect_on}

-- which propositions are true, and each variable's value
pub record State : Type 0 where
  pub has : ℕ → Bool
  pub val : ℕ → ℤ

unfoldable pub sum : (ℕ → ℤ) → List Term → ℤ
sum f [] = pos 0
sum f (t ∷ ts) = (t.weight *ℤ f t.var) +ℤ sum f ts

-- "o is 0 ≥, 1 >, 2 ≤, 3 <, 4 ="
unfoldable pub compares : Comparison → ℤ → ℤ → Bool
compares at_least s c = le_z c s
compares above s c = lt_z c s
compares at_most s c = le_z s c
compares below s c = lt_z s c
compares equal s c = le_z c s && le_z s c

unfoldable pub holds : State → Item → Bool
holds s (need p) = s.has p
holds s (condition c) = compares c.comparison (sum s.val c.terms) c.bound
holds s (add p) = true
holds s (delete p) = true
holds s (effect e) = true

-- "A real move needs its conditions true"
unfoldable pub applicable : State → Block → Bool
applicable s b = all (holds s) b

-- an effect's "value sum + c"
unfoldable pub value : State → Effect → ℤ
value s e = sum s.val e.terms +ℤ e.base

unfoldable pub changed : Kind → ℤ → ℤ → ℤ
changed assign old z = z
changed increase old z = old +ℤ z
changed decrease old z = old -ℤ z

-- "all effects read the state before it"
unfoldable pub changed_by : State → ℕ → Option Effect → ℤ
changed_by s v none = s.val v
changed_by s v (some e) = changed e.kind (s.val v) (value s e)

unfoldable pub real : Block → State → State
real b s = record { has = λ p. adds p b || (s.has p && not (deletes p b)); val = λ v. changed_by s v (effect_on v b) }

-- "A relaxed move deletes nothing, and each signed variable takes the larger of its old value and what its effect gives:
-- the effect's value for :=, the old value plus that for +=."
unfoldable pub relaxed : Block → State → State
relaxed b s = record { has = λ p. s.has p || adds p b; val = λ v. larger (s.val v) (changed_by s v (effect_on v b)) }

-- move b of the task
unfoldable pub move_at : Task → ℕ → Block
move_at k b = get_or k.moves b []

-- "A list solves a task if each move's conditions hold when it runs and the goal holds at the end"
abbrev pub Solves : (Block → State → State) → Task → State → List ℕ → Type 0
Solves run k s [] = T (applicable s k.goal)
Solves run k s (b ∷ bs) = (b < length k.moves) × T (applicable s (move_at k b)) × Solves run k (run (move_at k b) s) bs
