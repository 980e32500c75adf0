-- The five comparisons under document 01's "Normal form" (document 02, request 4/14): one law an operator, in the paper's order and
-- words, each with what it means. Reading refuses any other number. Assumes nothing.
use Rattle.std.specs.Prelude.{ℕ, ◌≡◌, ◌↔◌, List, T, ℤ}
use Rattle.model.specs.Lists.{all}
use Rattle.model.specs.Task.{Term, Comparison, Item, condition, Block}
use Rattle.model.specs.Move.{State, sum, holds}
use Rattle.model.specs.Command.{comparison_code}
use Rattle.model.specs.NormalForm.{normal_condition, normal_state}

-- ---- the five rules
-- the comparison of the sum S with c, as a table has it
abbrev pub compared : Comparison → List Term → ℤ → Item
compared o ts c = condition (record { terms = ts; comparison = o; bound = c })

-- the rule of an operator and its number: what it says of S, and the normal conditions that stand for it
pub record Rule (n : ℕ) (o : Comparison) (ts : List Term) (c : ℤ) (Says : ℤ → Type 0) (conditions : Block) : Type 0 where
  pub number : comparison_code o ≡ n
  pub says : (s : State) → Says (sum s.val ts) ↔ T (holds s (compared o ts c))
  pub becomes : normal_condition o ts c ≡ conditions
  -- it holds in a state exactly when they all hold in the normal state
  pub means : (s : State) → holds s (compared o ts c) ≡ all (holds (normal_state s)) conditions
