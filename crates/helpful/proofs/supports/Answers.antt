-- `supports` meets its contract. The invariant: the items that are left decide. The measure is what is left of the part. Assumes nothing.
use Prim.Native.Nat.{ℕ, ◌^◌, ◌<◌}
use native.Mathlib.Omega.{arith}
use mathlib.Core.Path.{◌≡◌, refl, sym, ap, ◌∙◌}
use mathlib.Core.List.{List}
use lib.IntN.{ℤ, pos, nat_abs}
use lib.ListN.{get_or}
use Rattle.integer.specs.Linear.{back, back_small}
use Rattle.model.specs.Lists.{any}
use Rattle.model.specs.Layer.{Layer}
use Rattle.model.specs.Plan.{Wants, supports}
use Rattle.stored_layer.specs.View.{held_by}
use Rattle.block.specs.Items.{Ranges, Found, readable, next_ahead}
use Rattle.block.specs.Blocks.{Passing, walk_start, walk_found, walk_next, walk_stop, walk_done, next_is, any_true, any_false, effect_base}
use Rattle.block.specs.declared.ItemAt.{ItemAt}
use Rattle.block.specs.declared.ItemAt.TheVariants.{Need, Add, Delete, Condition as ConditionAt, Effect as EffectAt, End}
use Rattle.helpful.specs.Support.{ReachesNew, supporting, wanted_room, has_room, target_room, row_room, prop_supports, effect_supports}
use Rattle.helpful.proofs.supports.Invariants.{Over}
use Rattle.helpful.proofs.supports.Goals as goal
use Rattle.helpful.proofs.supports.Goals.{After-next-item, In-Effect}

pub loop-at-init : goal.loop-at-init
loop-at-init c = walk_start (Over _ _ _ _) supporting c.requires.left.bytes.within

pub next-item-requires : goal.next-item-requires
next-item-requires c =
    let p = c.requires in
    readable (c.loop-at.invariant.reading p.ranges p.block p.over p.left p.scene).left

pub returns-then-lacking : goal.returns-then-lacking
returns-then-lacking c =
    record {
      is =
          walk_stop (Over _ _ _ _) supporting c.loop-at.invariant (next_is c.next-item.ensures c.in-Add.is)
          (λ k s x h. any_true (supports s.0 s.1) (prop_supports x h (c.held.ensures ∙ ap (λ (e : ℤ). held_by e 0) (back _ c.held-arg-1.given)) ∙ sym c.lacking.ensures ∙ c.if-lacking.true));
    }

pub returns-then-reaches_new : goal.returns-then-reaches_new
returns-then-reaches_new c =
    let tested : nat_abs c.in-Effect.base < 2 ^ 63 → ReachesNew c.args.part.now c.in-Effect.kind c.in-Effect.base c.in-Effect.from c.in-Effect.count c.args.row.now (get_or c.args.row.now c.in-Effect.var (pos 0)) (get_or c.args.targets.now c.in-Effect.var (pos 0)) c.reaches_new.result = λ small. rw (back_small c.in-Effect.base small, back _ c.reaches_new-arg-1.given, back _ c.reaches_new-arg-in-Effect-1.given)
    at c.reaches_new.ensures in
    record {
      is =
          walk_stop (Over _ _ _ _) supporting c.loop-at.invariant (next_is c.next-item.ensures c.in-Effect.is)
          (λ k s e x at-v h. any_true (supports s.0 s.1) (effect_supports x at-v h (tested (omega (arith, effect_base h))) ∙ c.if-reaches_new.true));
    }

-- what the next item is, once its case is known
found :
    (c : After-next-item) (i : ItemAt) → c.next-item.result ≡ i
    → Found c.requires.ranges c.args.part.now (c.loop-at.invariant.reading c.requires.ranges c.requires.block c.requires.over c.requires.left c.requires.scene).rest i
found c i e = let p = c.requires in walk_found (Over _ _ _ _) supporting c.loop-at.invariant p.ranges p.block p.over p.left p.scene (next_is c.next-item.ensures e)

-- an effect's variable is one of the table's
below : (c : In-Effect) → c.in-Effect.var < c.requires.ranges.vars
below c = let f = found (goal.at.In-Effect c).After-next-item _ c.in-Effect.is in omega (arith, f.is.ok.var, f.var)

pub bounds-wanted-prop : goal.bounds-wanted-prop
bounds-wanted-prop c = wanted_room c.requires.scene (found (goal.at.bounds-wanted-prop c).After-next-item _ c.in-Add.is).ok

pub offset_bounds-layers-prop : goal.offset_bounds-layers-prop
offset_bounds-layers-prop c = omega (arith, wanted_room c.requires.scene (found (goal.at.offset_bounds-layers-prop c).After-next-item _ c.in-Add.is).ok)

pub bounds-layers-prop : goal.bounds-layers-prop
bounds-layers-prop c = has_room c.requires.scene (found (goal.at.bounds-layers-prop c).After-next-item _ c.in-Add.is).ok

pub offset_bounds-row-var : goal.offset_bounds-row-var
offset_bounds-row-var c = omega (arith, target_room c.requires.scene (below (goal.at.offset_bounds-row-var c).In-Effect))

pub bounds-row-var : goal.bounds-row-var
bounds-row-var c = row_room c.requires.scene (below (goal.at.bounds-row-var c).In-Effect)

pub offset_bounds-targets-var : goal.offset_bounds-targets-var
offset_bounds-targets-var c = omega (arith, target_room c.requires.scene (below (goal.at.offset_bounds-targets-var c).In-Effect))

pub bounds-targets-var : goal.bounds-targets-var
bounds-targets-var c = target_room c.requires.scene (below (goal.at.bounds-targets-var c).In-Effect)

pub reaches_new-requires : goal.reaches_new-requires
reaches_new-requires c =
    let p = c.requires in
    let f = found (goal.at.reaches_new-requires c).After-next-item _ c.in-Effect.is in
    rw (back_small c.in-Effect.base (omega (arith, effect_base f.is)))
    (record { ranges = p.ranges; it = f.it; over = p.over.0; effect = f.is; values = p.scene.values })

-- an item that adds nothing and has no effect supports nothing
no-support :
    (part : List ℕ) (over : Ranges → Layer × Wants → Type 0) (i : ItemAt)
    → ((p after : ℕ) → i ≡ Add p after → ⊥)
    → ((kd : ℕ) (v : ℕ) (z : ℤ) (from n after : ℕ) → i ≡ EffectAt kd v z from n after → ⊥)
    → Passing part over supporting i
unfolding supports
no-support part over (Need p after) h k = λ r s x q. any_false (supports s.0 s.1) refl
no-support part over (Add p after) h k = absurd (h p after refl)
no-support part over (Delete p after) h k = λ r s x q. any_false (supports s.0 s.1) refl
no-support part over (ConditionAt o z from n after) h k = λ r s c x q. any_false (supports s.0 s.1) refl
no-support part over (EffectAt kd v z from n after) h k = absurd (k kd v z from n after refl)
no-support part over End h k = tt

pub loop-at-smaller-else-lacking : goal.loop-at-smaller-else-lacking
loop-at-smaller-else-lacking c = omega (arith, next_ahead c.loop-at-test.true c.next-item.ensures, c.behind-at.ensures)

pub loop-at-smaller-else-reaches_new : goal.loop-at-smaller-else-reaches_new
loop-at-smaller-else-reaches_new c = omega (arith, next_ahead c.loop-at-test.true c.next-item.ensures, c.behind-at.ensures)

pub loop-at-smaller : goal.loop-at-smaller
loop-at-smaller c = omega (arith, next_ahead c.loop-at-test.true c.next-item.ensures, c.behind-at.ensures)

pub loop-at-preserved-else-lacking : goal.loop-at-preserved-else-lacking
loop-at-preserved-else-lacking c =
    rw c.behind-at.ensures
    (walk_next (Over _ _ _ _) supporting c.loop-at.invariant c.loop-at-test.true c.next-item.ensures
    (rw c.in-Add.is
    (λ k s x h.
    any_false (supports s.0 s.1)
    (prop_supports x h (c.held.ensures ∙ ap (λ (e : ℤ). held_by e 0) (back _ c.held-arg-1.given)) ∙ sym c.lacking.ensures ∙ c.if-lacking.false))))

pub loop-at-preserved-else-reaches_new : goal.loop-at-preserved-else-reaches_new
loop-at-preserved-else-reaches_new c =
    rw c.behind-at.ensures
    (walk_next (Over _ _ _ _) supporting c.loop-at.invariant c.loop-at-test.true c.next-item.ensures
    (rw c.in-Effect.is
    (λ k s e x at-v h.
    any_false (supports s.0 s.1)
    (effect_supports x at-v h
    (rw (back_small c.in-Effect.base (omega (arith, effect_base h)), back _ c.reaches_new-arg-1.given, back _ c.reaches_new-arg-in-Effect-1.given) at c.reaches_new.ensures)
    ∙ c.if-reaches_new.false))))

pub loop-at-preserved : goal.loop-at-preserved
loop-at-preserved c =
    rw c.behind-at.ensures
    (walk_next (Over _ _ _ _) supporting c.loop-at.invariant c.loop-at-test.true c.next-item.ensures
    (no-support _ (Over _ _ _ _) c.next-item.result c.in_default.not-Add c.in_default.not-Effect))

pub returns : goal.returns
unfolding any
returns c = record { is = walk_done (Over _ _ _ _) supporting c.loop-at.invariant c.loop-at-test.false (λ s. refl) }
