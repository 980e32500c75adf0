-- A block and its normal form both change something, or neither does: "Normalise never makes a 16". Assumes nothing.
use Rattle.std.specs.Prelude.{ℕ, ◌≡◌, refl, Bool, true, false, ◌||◌, List, [], ◌∷◌, map, T, ℤ}
use Rattle.std.proofs.Common.{sym, ap, ◌∙◌, subst}
use Rattle.model.specs.Lists.{any}
use Rattle.model.specs.Task.{Term, Comparison, at_least, above, at_most, below, equal, Kind, assign, increase, decrease, Item, need, add, delete, condition, effect, Block, changes, active}
use Rattle.model.specs.NormalForm.{least, normal_condition, mirrored, normal_effect, normal_item, normal_block}
use Rattle.model.proofs.Theorems.NormalForm.Blocks.{any_append, All-of-map}
use Rattle.model.specs.Theorems.Reading.Active.{AllActive}

condition_changes : (o : Comparison) (ts : List Term) (c : ℤ) → any changes (normal_condition o ts c) ≡ false
unfolding normal_condition least any changes
condition_changes at_least ts c = refl
condition_changes above ts c = refl
condition_changes at_most ts c = refl
condition_changes below ts c = refl
condition_changes equal ts c = refl

effect_changes : (k : Kind) (v : ℕ) (ts : List Term) (c : ℤ) → any changes (normal_effect k v ts c) ≡ true
unfolding normal_effect mirrored any changes
effect_changes assign v ts c = refl
effect_changes increase v ts c = refl
effect_changes decrease v ts c = refl

item_changes : (i : Item) → any changes (normal_item i) ≡ changes i
unfolding normal_item any changes
item_changes (need p) = refl
item_changes (add p) = refl
item_changes (delete p) = refl
item_changes (condition c) = condition_changes c.comparison c.terms c.bound
item_changes (effect e) = effect_changes e.kind e.var e.terms e.base

-- a block and its normal form both do something, or neither does
pub normal_active : (b : Block) → active (normal_block b) ≡ active b
unfolding active any normal_block
normal_active [] = refl
normal_active (i ∷ b) =
    any_append changes (normal_item i) (normal_block b)
    ∙ ap (λ (x : Bool). x || any changes (normal_block b)) (item_changes i)
    ∙ ap (λ (x : Bool). changes i || x) (normal_active b)

pub normal_all_active : (ms : List Block) → AllActive ms → AllActive (map normal_block ms)
normal_all_active ms = All-of-map (λ b. T (active b)) normal_block ms (λ b. subst T (sym (normal_active b)))
