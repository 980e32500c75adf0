-- Sizes on the way one layer down: where the targets of layer t are at most b, those made for layer t−1 are at most
-- b + 8,001,000,000 and the counts at most b + 1,000,000, after each step of the way (document 01, "Plan"). Assumes nothing.
use Rattle.std.specs.Prelude.{ℕ, ◌≤◌, ◌<◌, max, ◌&&◌, eqb, ℤ, length}
use Rattle.std.proofs.Common.{arith}
use Rattle.std.proofs.Math.Bool.{not}
use Rattle.std.proofs.Math.Option.{some}
use Rattle.std.proofs.Math.Dec.{T}
use Rattle.model.specs.Limits.{paper}
use Rattle.model.specs.Lists.{fold_below}
use Rattle.model.specs.Task.{normal, Effect, Task, adds, effect_on}
use Rattle.model.specs.Move.{State, move_at}
use Rattle.model.specs.Layer.{Layer, reaches, usable, layer_value}
use Rattle.model.specs.Plan.{Target, free, least, Wants, Descent, counted, adder, take_adder, achieves, achiever, take_effect, take_achiever, carried_down, take_prop, take_target, take_value, descend}
use Rattle.model.specs.Theorems.Reading.WellFormed.{EffectOk, ItemOk, TaskOk}
use Rattle.model.proofs.Theorems.Laws.Booleans.{and_right, cond_cases}
use Rattle.model.proofs.Theorems.Laws.Searching.{first_from_cases, fold_below_induction}
use Rattle.model.proofs.Theorems.Layers.NextLayer.{effect_on_cases, move_ok}
use Rattle.model.specs.Theorems.Plans.Targets.{EachTarget}
use Rattle.model.proofs.Theorems.Plans.Targets.{carried_each}
use Rattle.model.proofs.Theorems.Plans.Descending.{elim_cases}
use Rattle.model.specs.Theorems.Sizes.Bounds.{Between}
use Rattle.model.proofs.Theorems.Sizes.Bounds.{between_wider, sum_few}
use Rattle.model.specs.Theorems.Sizes.States.{SmallState}
use Rattle.model.specs.Theorems.Sizes.Layers.{SmallLayer}
use Rattle.model.specs.Theorems.Sizes.Targets.{SmallWants}
use Rattle.model.proofs.Theorems.Sizes.Targets.{want_sum_small, want_block_small}
use Rattle.model.proofs.Theorems.Sizes.Counts.{unreached_between, wanted_between, runs_most}
use Rattle.model.specs.Theorems.Sizes.Descents.{SmallDescent}

counted_most : {f : ℕ → ℕ} {n most : ℕ} (b : ℕ) → ((c : ℕ) → f c ≤ most) → n ≤ most → (c : ℕ) → counted f b n c ≤ most
unfolding counted
counted_most {f} {n} {most} b h k c =
    cond_cases (λ m. m ≤ most) (eqb c b) (max (f c) n) (f c) (λ e. omega (arith, h c)) (λ e. h c)

-- "what layer t−1 already has is carried down": the targets are those of the layer above
carried_small : {b : ℕ} {w : Wants} (l : Layer) → SmallWants b w → SmallDescent b (carried_down l w)
carried_small l h =
    record {
      wants = record { each = carried_each l (λ p u t. tt) (λ v z i t. between_wider (omega arith) (omega arith) i) h.each };
      count = λ c. omega arith;
    }

module _
    {k : Task} {l : Layer} {s : State} {b : ℕ} (ok : TaskOk paper normal k)
    (small : SmallLayer k.vars l) (start : SmallState k.vars s) (large : 1_000_000_000_000 ≤ b) where
  -- "take the first that adds the proposition"
  pub take_adder_small :
      {d : Descent} (m : ℕ)
      → m < length k.moves
      → SmallDescent b d
      → SmallDescent b (take_adder k l s d (some m))
  unfolding take_adder move_at
  take_adder_small {d} m lt h =
      record {
        wants = want_block_small small start (omega arith) (move_ok ok m lt) h.wants;
        count = counted_most m h.count (omega arith);
      }

  -- "or whose effect on v has value ≥ target T (:=) or > 0 (+=)"
  pub take_effect_small :
      {d : Descent} {e : Effect} {z : ℤ} (v m : ℕ)
      → v < k.vars
      → m < length k.moves
      → EffectOk paper normal k.vars e
      → Between 1_000_000 b z
      → T (achieves l z (some e))
      → SmallDescent b d
      → SmallDescent b (take_effect k l s d v z m (some e))
  unfolding take_effect move_at achieves
  take_effect_small {d} {e} {z} v m v-lt m-lt e-ok near t h =
      record {
        wants =
            want_sum_small small start (omega arith) (sum_few e-ok.sum) (wanted_between large near e-ok) (omega arith)
            (want_block_small small start (omega arith) (move_ok ok m m-lt) h.wants);
        count = counted_most m h.count (runs_most large near start v-lt e.kind (layer_value l e) t);
      }

  -- the move that is found for a target
  pub take_achiever_small :
      {d : Descent} {z : ℤ} (v m : ℕ)
      → v < k.vars
      → m < length k.moves
      → Between 1_000_000 b z
      → T (achieves l z (effect_on v (move_at k m)))
      → SmallDescent b d
      → SmallDescent b (take_achiever k l s d v z (some m))
  unfolding take_achiever take_effect achieves move_at
  take_achiever_small {d} {z} v m v-lt m-lt near t h =
      effect_on_cases (λ o. T (achieves l z o) → SmallDescent b (take_effect k l s d v z m o))
      (ItemOk paper normal k.props k.vars) v (move_at k m) (move_ok ok m m-lt).items
      (λ none. absurd none)
      (λ e at-v e-ok achieved. take_effect_small v m v-lt m-lt e-ok near achieved h)
      t

  -- one proposition
  take_prop_small : (w : Wants) {d : Descent} (p : ℕ) → SmallDescent b d → SmallDescent b (take_prop k l s w p d)
  unfolding take_prop take_adder adder
  take_prop_small w {d} p h =
      elim_cases (SmallDescent b) (w.props p && not (l.has p)) (take_adder k l s d (adder k l p)) d
      (λ lacks. first_from_cases (λ m. usable l (move_at k m) && adds p (move_at k m))
      (λ o. SmallDescent b (take_adder k l s d o)) 0 (length k.moves)
      (λ m low high passes before. take_adder_small m (omega arith) h)
      (λ nobody. h))
      (λ has. h)

  -- one target of the layer above
  take_value_small :
      {w : Wants} {d : Descent} (v : ℕ)
      → v < k.vars
      → SmallWants b w
      → SmallDescent b d
      → SmallDescent b (take_value k l s w v d)
  unfolding take_value take_target take_achiever achiever
  take_value_small {w} {d} v lt wanted h = go (w.target v) (wanted.each.targets v)
    where
      go : (t : Target) → EachTarget (Between 9_000_000_000_000_000 b) t → SmallDescent b (take_target k l s v t d)
      go free i = h
      go (least z) i =
          elim_cases (SmallDescent b) (reaches (l.val v) z) d (take_achiever k l s d v z (achiever k l v z))
          (λ reached. h)
          (λ low. first_from_cases (λ m. usable l (move_at k m) && achieves l z (effect_on v (move_at k m)))
          (λ o. SmallDescent b (take_achiever k l s d v z o)) 0 (length k.moves)
          (λ m from to passes before.
          take_achiever_small v m lt (omega arith) (unreached_between (l.val v) (small.values v lt) low i.to)
          (and_right (usable l (move_at k m)) (achieves l z (effect_on v (move_at k m))) passes) h)
          (λ nobody. h))

  -- one layer down
  pub descend_small : {w : Wants} → SmallWants b w → SmallDescent b (descend k l s w)
  unfolding descend
  descend_small {w} wanted =
      fold_below_induction (take_value k l s w) (λ i e. SmallDescent b e) k.vars
      (fold_below (take_prop k l s w) k.props (carried_down l w))
      (fold_below_induction (take_prop k l s w) (λ i d. SmallDescent b d) k.props (carried_down l w)
      (carried_small l wanted) (λ i d lt h. take_prop_small w i h))
      (λ i e lt j. take_value_small i lt wanted j)
