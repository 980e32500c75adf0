-- Items that a loop passes over. Assumes nothing.
use native.Mathlib.Omega.{arith}
use mathlib.Core.Path.{◌≡◌, refl}
use mathlib.Core.List.{List, ◌∷◌}
use Prim.Native.Nat.{ℕ, ◌<◌}
use lib.IntN.{ℤ}
use Rattle.model.specs.Task.{Effect, add, delete, effect, Block}
use Rattle.block.specs.Items.{Ranges, Moves}
use Rattle.block.specs.Blocks.{Passing}
use Rattle.block.specs.declared.ItemAt.{ItemAt}
use Rattle.block.specs.declared.ItemAt.TheVariants.{Need, Add, Delete, Condition as ConditionAt, Effect as EffectAt, End}

-- an item that is no condition does not change the answer to a question about conditions
pub no_condition :
    {I X : Type 0} (part : List ℕ) (over : Ranges → I → Type 0) (g : I → Block → X)
    → ((s : I) (p : ℕ) (o : Block) → g s (add p ∷ o) ≡ g s o)
    → ((s : I) (p : ℕ) (o : Block) → g s (delete p ∷ o) ≡ g s o)
    → ((s : I) (e : Effect) (o : Block) → g s (effect e ∷ o) ≡ g s o)
    → (x : ItemAt)
    → ((p after : ℕ) → x ≡ Need p after → ⊥)
    → ((o : ℕ) (z : ℤ) (from n after : ℕ) → x ≡ ConditionAt o z from n after → ⊥)
    → (x ≡ End → ⊥)
    → Passing part over g x
no_condition part over g a d e (Need p after) h k l = absurd (h p after refl)
no_condition part over g a d e (Add p after) h k l = λ r s w i. a s p
no_condition part over g a d e (Delete p after) h k l = λ r s w i. d s p
no_condition part over g a d e (ConditionAt o z from n after) h k l = absurd (k o z from n after refl)
no_condition part over g a d e (EffectAt kd v z from n after) h k l = λ r s i w q t. e s i
no_condition part over g a d e End h k l = absurd (l refl)

-- an item whose arm is not the end's lies before the part's end
pub before_end : {at size : ℕ} (i : ItemAt) → (i ≡ End → ⊥) → Moves at size i → at < size
before_end (Need p after) n m = omega arith
before_end (Add p after) n m = omega arith
before_end (Delete p after) n m = omega arith
before_end (ConditionAt o z from c after) n m = omega arith
before_end (EffectAt kd v z from c after) n m = omega arith
before_end End n m = absurd (n refl)
