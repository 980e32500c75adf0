-- The conditions of a block are true in a state exactly when those of its normal form are true in the normal state.
-- Assumes nothing.
use Rattle.std.specs.Prelude.{ℕ, ◌≡◌, Bool, ℤ}
use Rattle.std.proofs.Math.Path.{refl, sym, ap, fun_ext}
use Rattle.std.proofs.Common.{◌∙◌}
use Rattle.std.proofs.Math.Bool.{true, and-true}
use mathlib.Core.List.{List}
use Rattle.model.specs.Lists.{all}
use Rattle.model.specs.Task.{Term, Comparison, at_least, above, at_most, below, equal, Kind, assign, increase, decrease, Item, need, add, delete, condition, effect, Block}
use Rattle.model.specs.Move.{State, sum, compares, holds, applicable}
use Rattle.model.specs.NormalForm.{normal_condition, mirrored, normal_effect, normal_item, normal_block, normal_state}
use Rattle.model.proofs.Theorems.NormalForm.Blocks.{all_normal}
use Rattle.model.proofs.Theorems.NormalForm.Comparisons.{at_least_rule, above_rule, at_most_rule, below_rule, equal_rule}

module _ (s : State) where
  condition_holds :
      (o : Comparison) (ts : List Term) (c : ℤ)
      → all (holds (normal_state s)) (normal_condition o ts c) ≡ compares o (sum s.val ts) c
  unfolding holds normal_condition
  condition_holds at_least ts c = sym ((at_least_rule ts c).means s)
  condition_holds above ts c = sym ((above_rule ts c).means s)
  condition_holds at_most ts c = sym ((at_most_rule ts c).means s)
  condition_holds below ts c = sym ((below_rule ts c).means s)
  condition_holds equal ts c = sym ((equal_rule ts c).means s)

  item_holds : (i : Item) → all (holds (normal_state s)) (normal_item i) ≡ holds s i
  unfolding all holds normal_item normal_effect mirrored normal_state
  item_holds (need p) = and-true (s.has p)
  item_holds (add p) = refl
  item_holds (delete p) = refl
  item_holds (condition c) = condition_holds c.comparison c.terms c.bound
  item_holds (effect e) = effect_holds e.kind e.var e.terms e.base
    where
      effect_holds :
          (k : Kind) (v : ℕ) (ts : List Term) (c : ℤ)
          → all (holds (normal_state s)) (normal_effect k v ts c) ≡ true
      effect_holds assign v ts c = refl
      effect_holds increase v ts c = refl
      effect_holds decrease v ts c = refl

  -- "A real move needs its conditions true": they are in the normal state exactly when they are in the state.
  pub normal_applicable : (b : Block) → applicable (normal_state s) (normal_block b) ≡ applicable s b
  unfolding applicable
  normal_applicable b = all_normal (holds (normal_state s)) b ∙ ap (λ (f : Item → Bool). all f b) (fun_ext item_holds)
