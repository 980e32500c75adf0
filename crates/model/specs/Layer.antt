-- Layers, the answer layer and "no plan" (document 01, "Layers").
-- Assumes nothing.
use Rattle.std.specs.Prelude.{ℕ, zero, suc, ◌+◌, ◌*◌, ◌<◌, ◌≡◌, Bool, true, false, cond, ◌&&◌, ◌||◌, List, [], ◌∷◌, ℤ, pos, ◌+ℤ◌, ◌*ℤ◌, length}
use Rattle.std.specs.Bool.{beq}
use Rattle.std.proofs.Math.Option.{Option, none, some}
use Rattle.std.specs.Int.Signed.{le_z}
use Rattle.integer.specs.Linear.{larger}
use Rattle.model.specs.Lists.{all, any, all_below, first_from}
use Rattle.model.specs.Task.{Term, Kind, assign, increase, decrease, Effect, Item, need, add, delete, condition, effect, Block, Task, adds, effect_on}
use Rattle.model.specs.Move.{State}

-- "a value for each signed variable: a whole number or unbounded"
pub data Value : Type 0 where
  finite : ℤ → Value
  unbounded : Value

-- "A layer holds propositions and a value for each signed variable"
pub record Layer : Type 0 where
  pub has : ℕ → Bool
  pub val : ℕ → Value

-- "A sum with an unbounded term is unbounded and above every number."
unfoldable pub plus : Value → Value → Value
plus (finite a) (finite b) = finite (a +ℤ b)
plus (finite a) unbounded = unbounded
plus unbounded b = unbounded

unfoldable pub times : ℤ → Value → Value
times w (finite z) = finite (w *ℤ z)
times w unbounded = unbounded

unfoldable pub layer_sum : (ℕ → Value) → List Term → Value
layer_sum f [] = finite (pos 0)
layer_sum f (t ∷ ts) = plus (times t.weight (f t.var)) (layer_sum f ts)

-- is the value at least c
unfoldable pub reaches : Value → ℤ → Bool
reaches (finite z) c = le_z c z
reaches unbounded c = true

unfoldable pub highest : Value → Value → Value
highest (finite a) (finite b) = finite (larger a b)
highest (finite a) unbounded = unbounded
highest unbounded b = unbounded

-- a normal table's conditions are all ≥
unfoldable pub holds_in : Layer → Item → Bool
holds_in l (need p) = l.has p
holds_in l (condition c) = reaches (layer_sum l.val c.terms) c.bound
holds_in l (add p) = true
holds_in l (delete p) = true
holds_in l (effect e) = true

-- do all conditions of the block, a move or the goal, hold in the layer
unfoldable pub usable : Layer → Block → Bool
usable l b = all (holds_in l) b

unfoldable pub layer_value : Layer → Effect → Value
layer_value l e = plus (layer_sum l.val e.terms) (finite e.base)

-- "a += whose value in layer t is above 0 makes its variable unbounded; a := raises it to its value in layer t if larger":
-- what an effect on v offers v. (A whole number is above 0 if it is at least 1; a normal table has no −=.)
unfoldable pub offer : Layer → ℕ → Kind → Value → Value
offer l v assign z = z
offer l v increase z = cond (reaches z (pos 1)) unbounded (l.val v)
offer l v decrease z = l.val v

unfoldable pub offered : Layer → ℕ → Option Effect → Value
offered l v none = l.val v
offered l v (some e) = offer l v e.kind (layer_value l e)

-- "from all moves whose conditions hold in layer t: add their propositions"
unfoldable pub gained : Layer → ℕ → List Block → Bool
gained l p ms = any (λ m. usable l m && adds p m) ms

unfoldable pub raised : Layer → ℕ → List Block → Value
raised l v [] = l.val v
raised l v (m ∷ ms) = highest (cond (usable l m) (offered l v (effect_on v m)) (l.val v)) (raised l v ms)

unfoldable pub next : List Block → Layer → Layer
next ms l = record { has = λ p. l.has p || gained l p ms; val = λ v. raised l v ms }

-- a state seen as a layer
unfoldable pub layer_of : State → Layer
layer_of s = record { has = s.has; val = λ v. finite (s.val v) }

-- "Layer 0 is the state."
unfoldable pub layer : List Block → State → ℕ → Layer
layer ms s zero = layer_of s
layer ms s (suc t) = next ms (layer ms s t)

-- the layers of a task from a state
unfoldable pub layer_at : Task → State → ℕ → Layer
layer_at k s t = layer k.moves s t

-- "If layer t meets the goal"
unfoldable pub meets_goal : Task → State → ℕ → Bool
meets_goal k s t = usable (layer_at k s t) k.goal

-- ---- the answer layer and "no plan"

-- "A next layer equal to layer t"
abbrev pub EqualNext : Task → State → ℕ → Type 0
EqualNext k s t = layer_at k s (suc t) ≡ layer_at k s t

-- building goes past every layer below t: none meets the goal, none has an equal next layer
pub record Passed (k : Task) (s : State) (t : ℕ) : Type 0 where
  pub unmet : (u : ℕ) → u < t → meets_goal k s u ≡ false
  pub unequal : (u : ℕ) → u < t → EqualNext k s u → ⊥

-- "If layer t meets the goal, building stops with answer layer t."
pub record Reached (k : Task) (s : State) (t : ℕ) : Type 0 where
  pub passed : Passed k s t
  pub met : meets_goal k s t ≡ true

-- "A next layer equal to layer t is not stored ..; the answer is "no plan"."; "the first t whose next layer equals layer t"
pub record Exhausted (k : Task) (s : State) (t : ℕ) : Type 0 where
  pub passed : Passed k s t
  pub unmet : meets_goal k s t ≡ false
  pub equal : EqualNext k s t

-- ---- how the answer is found

-- the answer layer, or "no plan" with its layer
pub data Outcome : Type 0 where
  reached : ℕ → Outcome
  exhausted : ℕ → Outcome

-- "Reported layers: the number of the last stored layer"
unfoldable pub reported : Outcome → ℕ
reported (reached t) = t
reported (exhausted t) = t

unfoldable pub same_value : Value → Value → Bool
same_value (finite a) (finite b) = le_z a b && le_z b a
same_value (finite a) unbounded = false
same_value unbounded (finite b) = false
same_value unbounded unbounded = true

-- are two layers equal, over the table's propositions and variables
unfoldable pub same_layer : ℕ → ℕ → Layer → Layer → Bool
same_layer props vars l k =
    all_below (λ p. beq (l.has p) (k.has p)) props && all_below (λ v. same_value (l.val v) (k.val v)) vars

-- is the next layer equal to layer t (`Theorems.Layers.Settled.settled_equal`)
unfoldable pub settled : Task → State → ℕ → Bool
settled k s t = same_layer k.props k.vars (layer_at k s t) (layer_at k s (suc t))

-- does building stop at layer t, and how
unfoldable pub stops : Task → State → ℕ → Bool
stops k s t = meets_goal k s t || settled k s t

unfoldable pub outcome_at : Task → State → ℕ → Outcome
outcome_at k s t = cond (meets_goal k s t) (reached t) (exhausted t)

-- the bound on layers, (A + N + 1) × (N + 1)
unfoldable pub bound : ℕ → ℕ → ℕ
bound moves vars = (moves + vars + 1) * (vars + 1)

-- the first of n layers at which building stops, else layer n
unfoldable pub first_stop : Task → State → ℕ → ℕ
first_stop k s n = elim (first_from (stops k s) 0 n) [ none ↦ n | some t ↦ t ]

-- the one layer that is `Reached` or `Exhausted` (`Theorems.Layers.Answer`); it is within the bound (`Theorems.Layers.Bound`)
unfoldable pub outcome : Task → State → Outcome
outcome k s = outcome_at k s (first_stop k s (bound (length k.moves) k.vars))
