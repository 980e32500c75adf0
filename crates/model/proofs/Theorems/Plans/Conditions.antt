-- The wants of a move or the goal, and of an effect's value: they can be had in a layer where the conditions hold, and every
-- state at least as high as the first that meets them has the conditions and the value (document 01, "Plan"). Assumes nothing.
use Rattle.std.specs.Prelude.{ℕ, T, ◌+ℤ◌, ◌-ℤ◌, ◌≤ℤ◌}
use mathlib.Core.List.{List, [], ◌∷◌}
use Rattle.std.proofs.Math.IntN.{ℤ}
use Rattle.integer.specs.Linear.{zlin, diff, +-mono, ≤-refl, ≤_trans}
use Rattle.integer.specs.Linear as Linear
use Rattle.model.specs.Limits.{Limits}
use Rattle.model.specs.Lists.{all}
use Rattle.model.specs.Task.{normal, Term, Effect, Item, need, add, delete, condition, effect, Block}
use Rattle.model.specs.Move.{State, sum, value}
use Rattle.model.specs.Layer.{Value, finite, unbounded, Layer, plus, layer_sum, holds_in, usable, layer_value, layer_of}
use Rattle.model.specs.Plan.{Wants, want_sum, want_item, want_block, low_value}
use Rattle.model.specs.Theorems.Reading.WellFormed.{All, TermOk, SumOk, EffectOk, ItemOk}
use Rattle.model.proofs.Theorems.Laws.Booleans.{and_left, and_right, and_both}
use Rattle.model.proofs.Theorems.Laws.Searching.{All-map}
use Rattle.model.proofs.Theorems.Layers.Order.{finite-⊑, ⊑-reaches, layer_sum_finite}
use Rattle.model.specs.Theorems.Plans.Targets.{Above, Sat}
use Rattle.model.proofs.Theorems.Plans.Targets.{low_reaches, each_map, want_prop_each, want_prop_old, want_prop_new}
use Rattle.model.proofs.Theorems.Plans.Wanting.{want_sum_each, want_sum_old, want_sum_enough}
use Rattle.model.specs.Theorems.Plans.Conditions.{Had}

pub had_sat : {props vars : ℕ} {l : Layer} {w : Wants} → Had props vars l w → Sat w l
had_sat h = record { each = each_map (λ p t. t.1) (λ v z t. t.1) h.each }

module _ {x : Layer} (l : Layer) (s : State) where
  want_item_old : (w : Wants) (i : Item) → Sat (want_item l s w i) x → Sat w x
  unfolding want_item
  want_item_old w (need p) h = want_prop_old w p h
  want_item_old w (condition c) h = want_sum_old l s w c.terms c.bound h
  want_item_old w (add p) h = h
  want_item_old w (delete p) h = h
  want_item_old w (effect e) h = h

  pub want_block_old : (w : Wants) (b : Block) → Sat (want_block l s w b) x → Sat w x
  unfolding want_block
  want_block_old w [] h = h
  want_block_old w (i ∷ b) h = want_item_old w i (want_block_old (want_item l s w i) b h)

module _ (L : Limits) (props vars : ℕ) (l : Layer) (s : State) where
  pub want_sum_had :
      (w : Wants) (ts : List Term) (c : ℤ)
      → SumOk L normal vars ts
      → Had props vars l w
      → Had props vars l (want_sum l s w ts c)
  want_sum_had w ts c ok h =
      record {
        each =
            want_sum_each l s w ts c
            (All-map {P = TermOk L normal vars} ts (λ t t-ok z r. (t-ok.var, r)) ok.terms) h.each;
      }

  want_item_had :
      (w : Wants) (i : Item)
      → ItemOk L normal props vars i
      → T (holds_in l i)
      → Had props vars l w
      → Had props vars l (want_item l s w i)
  unfolding want_item holds_in
  want_item_had w (need p) ok t h = record { each = want_prop_each h.each (ok, t) }
  want_item_had w (condition c) ok t h = want_sum_had w c.terms c.bound ok.sum h
  want_item_had w (add p) ok t h = h
  want_item_had w (delete p) ok t h = h
  want_item_had w (effect e) ok t h = h

  -- the conditions of a block that is usable in the layer can be had there
  pub want_block_had :
      (w : Wants) (b : Block)
      → All (ItemOk L normal props vars) b
      → T (usable l b)
      → Had props vars l w
      → Had props vars l (want_block l s w b)
  unfolding want_block usable all
  want_block_had w [] ok t h = h
  want_block_had w (i ∷ b) ok t h =
      want_block_had (want_item l s w i) b ok.1 (and_right (holds_in l i) (all (holds_in l) b) t)
      (want_item_had w i ok.0 (and_left (holds_in l i) (all (holds_in l) b) t) h)

  -- the sum is at least the layer's if that is finite, and at least c if it is not
  pub want_sum_low :
      (w : Wants) (ts : List Term) (c : ℤ) {y : State}
      → SumOk L normal vars ts
      → Above s y
      → Sat (want_sum l s w ts c) (layer_of y)
      → low_value (layer_sum l.val ts) c ≤ℤ sum y.val ts
  want_sum_low w ts c ok above h =
      let positive = All-map {P = TermOk L normal vars} ts (λ t t-ok. t-ok.weight.0) ok.terms in
      want_sum_enough l above w ts c positive h

  want_item_enough :
      (w : Wants) (i : Item) {y : State}
      → ItemOk L normal props vars i
      → Above s y
      → T (holds_in l i)
      → Sat (want_item l s w i) (layer_of y)
      → T (holds_in (layer_of y) i)
  unfolding want_item holds_in layer_of
  want_item_enough w (need p) ok above t h = want_prop_new w p h
  want_item_enough w (condition c) {y} ok above t h =
      let low = low_reaches (layer_sum l.val c.terms) c.bound t in
      let enough = want_sum_low w c.terms c.bound ok.sum above h in
      ⊑-reaches (rw (layer_sum_finite y.val c.terms) (finite-⊑ (≤_trans low enough)))
  want_item_enough w (add p) ok above t h = tt
  want_item_enough w (delete p) ok above t h = tt
  want_item_enough w (effect e) ok above t h = tt

  -- and they hold in every state at least as high as the first that meets what is wanted for them
  pub want_block_enough :
      (w : Wants) (b : Block) {y : State}
      → All (ItemOk L normal props vars) b
      → Above s y
      → T (usable l b)
      → Sat (want_block l s w b) (layer_of y)
      → T (usable (layer_of y) b)
  unfolding want_block usable all
  want_block_enough w [] ok above t h = tt
  want_block_enough w (i ∷ b) {y} ok above t h =
      let u = want_item l s w i in
      and_both (holds_in (layer_of y) i) (all (holds_in (layer_of y)) b)
      (want_item_enough w i ok.0 above (and_left (holds_in l i) (all (holds_in l) b) t) (want_block_old l s u b h))
      (want_block_enough u b ok.1 above (and_right (holds_in l i) (all (holds_in l) b) t) h)

  -- the effect's value is at least the layer's if that is finite, and at least d if it is not
  pub want_effect_enough :
      (w : Wants) (e : Effect) (d : ℤ) {y : State}
      → EffectOk L normal vars e
      → Above s y
      → Sat (want_sum l s w e.terms (d -ℤ e.base)) (layer_of y)
      → low_value (layer_value l e) d ≤ℤ value y e
  unfolding value layer_value plus low_value
  want_effect_enough w e d {y} ok above h =
      go (layer_sum l.val e.terms) (want_sum_low w e.terms (d -ℤ e.base) ok.sum above h)
    where
      z : ℤ
      z = sum y.val e.terms

      go : (x : Value) → low_value x (d -ℤ e.base) ≤ℤ z → low_value (plus x (finite e.base)) d ≤ℤ (z +ℤ e.base)
      go (finite x) k = +-mono k (≤-refl e.base)
      go unbounded k = omega (zlin, diff d e.base, Linear.sum z e.base)
