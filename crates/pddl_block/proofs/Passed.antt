-- Items that have no line among the conditions, or none among the effects. Assumes nothing.
use Prim.Native.Nat.{ℕ}
use mathlib.Core.Path.{◌≡◌, refl}
use mathlib.Core.List.{List, []}
use lib.IntN.{ℤ}
use Rattle.model.specs.Pddl.{formulas_of, changes_of}
use Rattle.block.specs.Remaining.{items_of}
use Rattle.block.specs.declared.ItemAt.{ItemAt}
use Rattle.block.specs.declared.ItemAt.TheVariants.{Need, Add, Delete, Condition as ConditionAt, Effect as EffectAt, End}
use Rattle.pddl_block.specs.Rows.{rows, condition_rows, effect_rows}

-- by the variants that no arm takes
pub no_condition :
    (line part : List ℕ) (x : ItemAt)
    → ((p next : ℕ) → x ≡ Need p next → ⊥)
    → ((o : ℕ) (c : ℤ) (from n next : ℕ) → x ≡ ConditionAt o c from n next → ⊥)
    → [] ≡ condition_rows line (items_of part x)
unfolding condition_rows items_of formulas_of rows
no_condition line part (Need p next) h k = absurd (h p next refl)
no_condition line part (Add p next) h k = refl
no_condition line part (Delete p next) h k = refl
no_condition line part (ConditionAt o c from n next) h k = absurd (k o c from n next refl)
no_condition line part (EffectAt kd v c from n next) h k = refl
no_condition line part End h k = refl

pub no_effect :
    (line part : List ℕ) (x : ItemAt)
    → ((p next : ℕ) → x ≡ Add p next → ⊥)
    → ((p next : ℕ) → x ≡ Delete p next → ⊥)
    → ((kd : ℕ) (v : ℕ) (c : ℤ) (from n next : ℕ) → x ≡ EffectAt kd v c from n next → ⊥)
    → [] ≡ effect_rows line (items_of part x)
unfolding effect_rows items_of changes_of rows
no_effect line part (Need p next) h k l = refl
no_effect line part (Add p next) h k l = absurd (h p next refl)
no_effect line part (Delete p next) h k l = absurd (k p next refl)
no_effect line part (ConditionAt o c from n next) h k l = refl
no_effect line part (EffectAt kd v c from n next) h k l = absurd (l kd v c from n next refl)
no_effect line part End h k l = refl
