-- What the checks of a table give of the task that it stands for, as one record: ranges, rising terms, named once, no circle.
-- Assumes nothing.
use Rattle.std.specs.Prelude.{ℕ, ◌+◌, ◌*◌, ◌%◌, ◌≤◌, ◌<◌, ◌≡◌, false, not, List, [], ◌∷◌, T, ℤ, pos, neg_ℤ, nat_abs, length, ◌≤ℤ◌}
use Rattle.model.specs.Limits.{Limits}
use Rattle.model.specs.Lists.{any}
use Rattle.model.specs.Task.{Form, written, normal, Term, Comparison, at_least, above, at_most, below, equal, Condition, Kind, assign, increase, decrease, Effect, Item, need, add, delete, condition, effect, Block, Task, clashes}
use Rattle.model.specs.Circle.{circular}

-- P holds of each element
abbrev pub All {ℓ} : {A : Type ℓ} → (A → Type 0) → List A → Type 0
All P [] = Unit {0}
All P (x ∷ xs) = P x × All P xs

-- "variables strictly rising"
abbrev pub Rising : List Term → Type 0
Rising [] = Unit {0}
Rising (t ∷ ts) = All (λ (u : Term). t.var < u.var) ts × Rising ts

-- "Written: weights −1000..1000", 0 among them (02) ".. Normal: weights 1..1000"
abbrev pub WeightOk : Limits → Form → ℤ → Type 0
WeightOk L written w = nat_abs w ≤ L.weight
WeightOk L normal w = (pos 1 ≤ℤ w) × (nat_abs w ≤ L.weight)

pub record TermOk (L : Limits) (f : Form) (vars : ℕ) (t : Term) : Type 0 where
  pub var : t.var < vars
  pub weight : WeightOk L f t.weight

pub record SumOk (L : Limits) (f : Form) (vars : ℕ) (ts : List Term) : Type 0 where
  pub terms : All (TermOk L f vars) ts
  pub few : length ts ≤ L.terms
  pub rising : Rising ts

-- "Normal: .. o only 0, k only 0 or 1"
abbrev pub ComparisonOk : Form → Comparison → Type 0
ComparisonOk written o = Unit {0}
ComparisonOk normal at_least = Unit {0}
ComparisonOk normal above = ⊥
ComparisonOk normal at_most = ⊥
ComparisonOk normal below = ⊥
ComparisonOk normal equal = ⊥

abbrev pub KindOk : Form → Kind → Type 0
KindOk written k = Unit {0}
KindOk normal assign = Unit {0}
KindOk normal increase = Unit {0}
KindOk normal decrease = ⊥

-- "constants −1,000,000..1,000,000"; "condition constants −1,000,000..1,000,001"
abbrev pub BoundOk : Limits → Form → ℤ → Type 0
BoundOk L written c = nat_abs c ≤ L.constant
BoundOk L normal c = (neg_ℤ (pos L.constant) ≤ℤ c) × (c ≤ℤ pos (L.constant + 1))

pub record ConditionOk (L : Limits) (f : Form) (vars : ℕ) (c : Condition) : Type 0 where
  pub sum : SumOk L f vars c.terms
  pub comparison : ComparisonOk f c.comparison
  pub bound : BoundOk L f c.bound

pub record EffectOk (L : Limits) (f : Form) (vars : ℕ) (e : Effect) : Type 0 where
  pub var : e.var < vars
  pub kind : KindOk f e.kind
  pub sum : SumOk L f vars e.terms
  pub base : nat_abs e.base ≤ L.constant

abbrev pub ItemOk : Limits → Form → ℕ → ℕ → Item → Type 0
ItemOk L f props vars (need p) = p < props
ItemOk L f props vars (add p) = p < props
ItemOk L f props vars (delete p) = p < props
ItemOk L f props vars (condition c) = ConditionOk L f vars c
ItemOk L f props vars (effect e) = EffectOk L f vars e

-- no two items name the same thing
abbrev pub Once : Block → Type 0
Once [] = Unit {0}
Once (i ∷ b) = T (not (any (clashes i) b)) × Once b

pub record BlockOk (L : Limits) (f : Form) (props vars : ℕ) (b : Block) : Type 0 where
  pub items : All (ItemOk L f props vars) b
  pub once : Once b

-- the goal has conditions only
abbrev pub GoalItem : Item → Type 0
GoalItem (need p) = Unit {0}
GoalItem (add p) = ⊥
GoalItem (delete p) = ⊥
GoalItem (condition c) = Unit {0}
GoalItem (effect e) = ⊥

abbrev pub VarsOk : Limits → Form → ℕ → Type 0
VarsOk L written n = n ≤ L.vars
VarsOk L normal n = (n ≤ 2 * L.vars) × (n % 2 ≡ 0)

pub record TaskOk (L : Limits) (f : Form) (k : Task) : Type 0 where
  pub props : k.props ≤ L.props
  pub vars : VarsOk L f k.vars
  pub moves : length k.moves ≤ L.moves
  pub blocks : All (BlockOk L f k.props k.vars) k.moves
  pub goal : BlockOk L f k.props k.vars k.goal
  pub goal_items : All GoalItem k.goal
  pub no_circle : circular k ≡ false
