-- `adds` meets its contract. Assumes nothing.
use Prim.Native.Nat.{ℕ}
use native.Mathlib.Omega.{arith}
use mathlib.Core.List.{List}
use mathlib.Core.Path.{◌≡◌, refl}
use borrow.Author.Tests.{ne_eqb}
use Rattle.std.proofs.Common.{eq-eqb}
use Rattle.model.specs.Lists.{any}
use Rattle.model.specs.Task.{is_add, adds}
use Rattle.block.specs.Items.{readable, next_ahead}
use Rattle.block.specs.Blocks.{walk_start, walk_next, walk_stop, walk_done, next_is, any_true, any_false}
use Rattle.block.specs.declared.ItemAt.{ItemAt}
use Rattle.block.specs.declared.ItemAt.TheVariants.{Need, Add, Delete, Condition as ConditionAt, Effect as EffectAt, End}
use Rattle.achievers.specs.Search.{Alone, Skipped}
use Rattle.achievers.proofs.adds.Goals as goal

pub loop-at-init : goal.loop-at-init
loop-at-init c = walk_start Alone (λ (s : Unit {0}). adds c.args.p) c.requires.left.bytes.within

pub next-item-requires : goal.next-item-requires
next-item-requires c = let x = c.requires in readable (c.loop-at.invariant.reading x.ranges x.rest tt x.left tt).left

pub loop-at-smaller-else-prop-p : goal.loop-at-smaller-else-prop-p
loop-at-smaller-else-prop-p c = omega (arith, next_ahead c.loop-at-test.true c.next-item.ensures, c.behind-at.ensures)

pub loop-at-smaller : goal.loop-at-smaller
loop-at-smaller c = omega (arith, next_ahead c.loop-at-test.true c.next-item.ensures, c.behind-at.ensures)

pub returns-then-prop-p : goal.returns-then-prop-p
unfolding is_add adds
returns-then-prop-p c k block l =
    walk_stop Alone (λ (s : Unit {0}). adds c.args.p) c.loop-at.invariant (next_is c.next-item.ensures c.in-Add.is)
    (λ k s o h. any_true (is_add c.args.p) (eq-eqb _ _ c.if-prop-p.true)) k block tt l tt

pub returns : goal.returns
unfolding adds any
returns c k block l = walk_done Alone (λ (s : Unit {0}). adds c.args.p) c.loop-at.invariant c.loop-at-test.false (λ s. refl) k block tt l tt

-- an item that is none of those looked for
no_add : (part : List ℕ) (p : ℕ) (i : ItemAt) → ((q after : ℕ) → i ≡ Add q after → ⊥) → Skipped (adds p) part i
unfolding is_add adds
no_add part p (Need q after) h = λ k s w r. any_false (is_add p) refl
no_add part p (Add q after) h = absurd (h q after refl)
no_add part p (Delete q after) h = λ k s w r. any_false (is_add p) refl
no_add part p (ConditionAt o z from n after) h = λ k s e w r. any_false (is_add p) refl
no_add part p (EffectAt kd v z from n after) h = λ k s e w q r. any_false (is_add p) refl
no_add part p End h = tt

pub loop-at-preserved-else-prop-p : goal.loop-at-preserved-else-prop-p
unfolding is_add adds
loop-at-preserved-else-prop-p c =
    rw c.behind-at.ensures
    (walk_next Alone (λ (s : Unit {0}). adds c.args.p) c.loop-at.invariant c.loop-at-test.true c.next-item.ensures
    (rw c.in-Add.is (λ k s u r. any_false (is_add _) (ne_eqb _ _ c.if-prop-p.false))))

pub loop-at-preserved : goal.loop-at-preserved
loop-at-preserved c =
    rw c.behind-at.ensures
    (walk_next Alone (λ (s : Unit {0}). adds c.args.p) c.loop-at.invariant c.loop-at-test.true c.next-item.ensures
    (no_add _ _ c.next-item.result c.in_default.not-Add))
