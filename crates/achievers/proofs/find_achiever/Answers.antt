-- `find_achiever` meets its contract. Assumes nothing.
use Prim.Native.Nat.{ℕ}
use lib.IntN.{ℤ}
use native.Mathlib.Omega.{arith}
use mathlib.Core.List.{List}
use mathlib.Core.Path.{◌≡◌, refl, sym, ap, ◌∙◌}
use Rattle.integer.specs.Linear.{back, back_small}
use Rattle.model.specs.Task.{effect_on}
use Rattle.model.specs.Layer.{reaches}
use Rattle.block.specs.Items.{readable, next_ahead}
use Rattle.block.specs.Blocks.{walk_start, walk_found, walk_next, next_is, effect_on_other, layer_summable, layer_effect_value, effect_base}
use Rattle.block.specs.declared.ItemAt.{ItemAt}
use Rattle.block.specs.declared.ItemAt.TheVariants.{Need, Add, Delete, Condition as ConditionAt, Effect as EffectAt, End}
use Rattle.achievers.specs.Search.{Alone, Skipped, no_effect, effect_hit, effect_miss}
use Rattle.model.proofs.Theorems.Laws.Searching.{searched_start, searched_next}
use Rattle.achievers.specs.Search.{fails, part_in, move_left, move_over, achiever_none, achiever_found, achiever_passed}
use Rattle.achievers.proofs.find_achiever.Goals as goal

pub moves-init : goal.moves-init
moves-init c x = searched_start _ _

pub bounds-used-index : goal.bounds-used-index
bounds-used-index c = omega (arith, c.requires.search.long)

pub moves-preserved-then-not-used-index : goal.moves-preserved-then-not-used-index
moves-preserved-then-not-used-index c x = searched_next (c.moves.invariant x) c.moves-test.true (fails x.search _ c.moves-test.true c.if-not-used-index.true)

pub part-part-requires : goal.part-part-requires
part-part-requires c = part_in c.requires.search c.moves-test.true

pub loop-at-init : goal.loop-at-init
loop-at-init c = walk_start Alone (λ (s : Unit {0}). effect_on c.args.v) (move_left c.requires.search c.moves-test.true c.part-part.ensures.0).bytes.within

pub next-item-requires : goal.next-item-requires
next-item-requires c =
    let y = move_over c.requires c.moves-test.true c.part-part.ensures.0 in
    readable (c.loop-at.invariant.reading y.ranges y.block tt y.left tt).left

pub loop-at-smaller-else-var-v : goal.loop-at-smaller-else-var-v
loop-at-smaller-else-var-v c = omega (arith, next_ahead c.loop-at-test.true c.next-item.ensures, c.behind-at.ensures)

pub loop-at-smaller : goal.loop-at-smaller
loop-at-smaller c = omega (arith, next_ahead c.loop-at-test.true c.next-item.ensures, c.behind-at.ensures)

pub layer_value-value-requires : goal.layer_value-value-requires
layer_value-value-requires c =
    let x = c.requires in
    let y = move_over x c.moves-test.true c.part-part.ensures.0 in
    let f = walk_found Alone (λ (s : Unit {0}). effect_on c.args.v) c.loop-at.invariant y.ranges y.block tt y.left tt (next_is c.next-item.ensures c.in-Effect.is) in
    let z = c.in-Effect.base in
    rw (back_small z (omega (arith, effect_base f.is))) (layer_summable f.is.terms y.values, effect_base f.is)

pub moves-preserved-then-var-v : goal.moves-preserved-then-var-v
moves-preserved-then-var-v c x =
    let y = move_over x c.moves-test.true c.part-part.ensures.0 in
    let f = walk_found Alone (λ (s : Unit {0}). effect_on c.args.v) c.loop-at.invariant y.ranges y.block tt y.left tt (next_is c.next-item.ensures c.in-Effect.is) in
    let z = c.in-Effect.base in
    let value = layer_effect_value y.over y.values f.is (rw (back_small z (omega (arith, effect_base f.is))) at c.layer_value-value.ensures) in
    achiever_passed x c.moves-test.true _ _ (c.moves.invariant x) c.if-not-used-index.false c.part-part.ensures.0
    (effect_miss y _ _ c.loop-at.invariant f c.if-var-v.true value (λ u e. c.reaches.ensures u (back c.layer_value-value.result c.layer_value-value.type_inv ∙ e) ∙ ap (reaches u) (back c.demand.result c.demand.type_inv ∙ c.demand.ensures)) c.if-reaches.false)

pub moves-preserved : goal.moves-preserved
moves-preserved c x =
    achiever_passed x c.moves-test.true _ _ (c.moves.invariant x) c.if-not-used-index.false c.part-part.ensures.0
    (no_effect (move_over x c.moves-test.true c.part-part.ensures.0) _ _ c.loop-at.invariant c.loop-at-test.false)

pub returns-then-reaches : goal.returns-then-reaches
returns-then-reaches c x =
    let y = move_over x c.moves-test.true c.part-part.ensures.0 in
    let f = walk_found Alone (λ (s : Unit {0}). effect_on c.args.v) c.loop-at.invariant y.ranges y.block tt y.left tt (next_is c.next-item.ensures c.in-Effect.is) in
    let z = c.in-Effect.base in
    let value = layer_effect_value y.over y.values f.is (rw (back_small z (omega (arith, effect_base f.is))) at c.layer_value-value.ensures) in
    rw (back_small z (omega (arith, effect_base f.is)), back c.layer_value-value.result c.layer_value-value.type_inv)
    (rw (back c.args.target c.ranges.target.sfits) at
    (achiever_found x c.moves-test.true _ _ (c.moves.invariant x) c.if-not-used-index.false c.part-part.ensures.0
    (effect_hit y _ _ c.loop-at.invariant f c.if-var-v.true value (λ u e. c.reaches.ensures u (back c.layer_value-value.result c.layer_value-value.type_inv ∙ e) ∙ ap (reaches u) (back c.demand.result c.demand.type_inv ∙ c.demand.ensures)) c.if-reaches.true)))

pub returns-after-moves : goal.returns-after-moves
returns-after-moves c x = rw (back c.args.target c.ranges.target.sfits) at (achiever_none x.search _ _ (c.moves.invariant x) c.moves-test.false)

-- an item that is none of those looked for
no_effect_on : (part : List ℕ) (v : ℕ) (i : ItemAt) → ((kd : ℕ) (u : ℕ) (z : ℤ) (from m after : ℕ) → i ≡ EffectAt kd u z from m after → ⊥) → Skipped (effect_on v) part i
unfolding effect_on
no_effect_on part v (Need q after) h = λ k s w r o. refl
no_effect_on part v (Add q after) h = λ k s w r o. refl
no_effect_on part v (Delete q after) h = λ k s w r o. refl
no_effect_on part v (ConditionAt o z from n after) h = λ k s e w r q. refl
no_effect_on part v (EffectAt kd u z from n after) h = absurd (h kd u z from n after refl)
no_effect_on part v End h = tt

pub loop-at-preserved-else-var-v : goal.loop-at-preserved-else-var-v
loop-at-preserved-else-var-v c =
    rw c.behind-at.ensures
    (walk_next Alone (λ (s : Unit {0}). effect_on c.args.v) c.loop-at.invariant c.loop-at-test.true c.next-item.ensures
    (rw c.in-Effect.is (λ k s e u q r. effect_on_other _ e (λ p. c.if-var-v.false (sym q ∙ p)))))

pub loop-at-preserved : goal.loop-at-preserved
loop-at-preserved c =
    rw c.behind-at.ensures
    (walk_next Alone (λ (s : Unit {0}). effect_on c.args.v) c.loop-at.invariant c.loop-at-test.true c.next-item.ensures
    (no_effect_on _ _ c.next-item.result c.in_default.not-Effect))
