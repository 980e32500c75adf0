-- "Which command each form stands for by the meaning PDDL 2.1 gives it": sums and conditions. A sum has the value of the command's, and
-- a block's conditions are true in a state exactly where the block is applicable; so is the goal's. Assumes nothing.
use Rattle.std.specs.Prelude.{◌≡◌, ◌↔◌, Bool, ◌&&◌, List, [], ◌∷◌, T, ℤ, pos, ◌+ℤ◌, ◌*ℤ◌}
use Rattle.std.proofs.Common.{sym, ap, ◌∙◌, subst}
use Rattle.integer.specs.Linear.{+_assoc, +-zero, zero-+}
use Rattle.model.specs.Lists.{all}
use Rattle.model.specs.Task.{Term, Comparison, at_least, above, at_most, below, equal, Condition, need, add, delete, condition, effect, Block}
use Rattle.model.specs.Move.{State, sum, compares, holds, applicable}
use Rattle.model.specs.Pddl.{sum_of, compare_of, formulas_of}
use Rattle.model.specs.PddlMeaning.{value_in, Compares, Satisfies, SatisfiesAll}
use Rattle.model.specs.Theorems.Reading.WellFormed.{All}
use Rattle.model.proofs.Theorems.Laws.Booleans.{and_left, and_right, and_both}
use Rattle.model.proofs.Theorems.NormalForm.Comparisons.{equal_test}
use Rattle.model.proofs.Theorems.Laws.Listed.{All-in, in_all}

-- the text's sum is the sum of the terms and the constant
pub sum_value : (s : State) (ts : List Term) (c : ℤ) → value_in s (sum_of ts c) ≡ sum s.val ts +ℤ c
unfolding value_in sum_of sum
sum_value s [] c = sym (zero-+ c)
sum_value s (t ∷ ts) c =
    ap (λ (z : ℤ). (t.weight *ℤ s.val t.var) +ℤ z) (sum_value s ts c)
    ∙ sym (+_assoc (t.weight *ℤ s.val t.var) (sum s.val ts) c)

-- each operator is its comparison
compares_meaning : (o : Comparison) (x y : ℤ) → Compares o x y ↔ T (compares o x y)
unfolding compares
compares_meaning at_least x y = (λ h. h.le, λ t. record { le = t })
compares_meaning above x y = (λ h. h.lt, λ t. record { lt = t })
compares_meaning at_most x y = (λ h. h.le, λ t. record { le = t })
compares_meaning below x y = (λ h. h.lt, λ t. record { lt = t })
compares_meaning equal x y = equal_test x y

-- a condition of the text is true exactly where the command's holds
pub condition_true : (s : State) (c : Condition) → Satisfies s (compare_of c) ↔ T (holds s (condition c))
unfolding compare_of holds value_in
condition_true s c =
    subst (λ (z : ℤ). Compares c.comparison z c.bound ↔ T (compares c.comparison total c.bound))
    (sym (sum_value s c.terms (pos 0) ∙ +-zero total)) (compares_meaning c.comparison total c.bound)
  where
    total : ℤ
    total = sum s.val c.terms

both_true : {P Q : Type 0} (a b : Bool) → P ↔ T a → Q ↔ T b → (P × Q) ↔ T (a && b)
both_true a b x y = (
  λ h. and_both a b (x.0 h.0) (y.0 h.1),
  λ t. (x.1 (and_left a b t), y.1 (and_right a b t)),
)

all_true : (s : State) (b : Block) → All (Satisfies s) (formulas_of b) ↔ T (applicable s b)
unfolding formulas_of applicable all holds
all_true s [] = (λ a. tt, λ t. tt)
all_true s (need p ∷ b) = both_true (s.has p) (all (holds s) b) (λ t. t, λ t. t) (all_true s b)
all_true s (add p ∷ b) = all_true s b
all_true s (delete p ∷ b) = all_true s b
all_true s (condition c ∷ b) =
    both_true (holds s (condition c)) (all (holds s) b) (condition_true s c) (all_true s b)
all_true s (effect e ∷ b) = all_true s b

-- the conditions of a block's text are all true in a state exactly where the block's conditions hold
pub block_true : (s : State) (b : Block) → SatisfiesAll s (formulas_of b) ↔ T (applicable s b)
block_true s b = (
  λ a. (all_true s b).0 (in_all (Satisfies s) (formulas_of b) a),
  λ t. All-in (Satisfies s) (formulas_of b) ((all_true s b).1 t),
)
