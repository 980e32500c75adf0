-- `Targets::want_block` meets its contract. The invariant: in every reading, the items before `at` are passed. The measure is what
-- is left of the part. Assumes nothing.
use Prim.Native.Nat.{◌<◌}
use native.Mathlib.Omega.{arith}
use Prim.Native.Nat.{ℕ}
use lib.IntN.{ℤ}
use mathlib.Core.Path.{◌≡◌, refl, sym, ◌∙◌}
use lib.ListN.{length}
use Rattle.integer.specs.Linear.{back_small}
use Rattle.block.specs.Items.{readable, behind, next_ahead}
use Rattle.block.specs.Blocks.{next_is}
use Rattle.block.specs.declared.ItemAt.{ItemAt}
use Rattle.block.specs.declared.ItemAt.TheVariants.{Need, Add, Delete, Condition as ConditionAt, Effect as EffectAt, End}
use Rattle.block.proofs.Passed.{before_end}
use Rattle.targets.specs.Blocks.{BlockWantable, NoCondition, BlockDone, block_start, block_end, block_other, block_need, condition_wantable, condition_size, block_condition}
use Rattle.targets.proofs.Targets.want_block.Goals as goal
use Rattle.targets.proofs.Targets.want_block.Goals.{in-Need, in-Condition, in_default}

pub loop-prop-init : goal.loop-prop-init
loop-prop-init c = (c.requires.left.bytes.within, λ x. block_start x)

pub next-item-requires : goal.next-item-requires
next-item-requires c = readable (c.loop-prop.invariant.1 c.requires).reading.left

pub want_prop-self-requires : goal.want_prop-self-requires
want_prop-self-requires c =
    let d = c.loop-prop.invariant.1 c.requires in
    omega (arith, ((next_is c.next-item.ensures c.in-Need.is).found _ d.reading.rest d.reading.left).ok, d.encoded.few_props)

pub want_sum-self-requires : goal.want_sum-self-requires
want_sum-self-requires c =
    let x = c.requires in
    let d = c.loop-prop.invariant.1 x in
    let f = (next_is c.next-item.ensures c.in-Condition.is).found x.ranges d.reading.rest d.reading.left in
    let z = c.in-Condition.bound in
    (condition_wantable x d f, rw (back_small z (omega (arith, condition_size x d f))) (omega (arith, condition_size x d f)))

no_condition :
    (i : ItemAt)
    → ((p after : ℕ) → i ≡ Need p after → ⊥)
    → ((o : ℕ) (z : ℤ) (from n after : ℕ) → i ≡ ConditionAt o z from n after → ⊥)
    → (i ≡ End → ⊥)
    → NoCondition i
no_condition (Need p after) h k l = absurd (h p after refl)
no_condition (Add p after) h k l = tt
no_condition (Delete p after) h k l = tt
no_condition (ConditionAt o z from n after) h k l = absurd (k o z from n after refl)
no_condition (EffectAt kd v z from n after) h k l = tt
no_condition End h k l = absurd (l refl)

pub returns-in-End : goal.returns-in-End
returns-in-End c x = block_end x (c.loop-prop.invariant.1 x) (next_is c.next-item.ensures c.in-End.is).moves

pub loop-prop-smaller : goal.loop-prop-smaller
loop-prop-smaller c =
    let inside : c.loop-prop.at < length c.args.part.now = elim c.match-item.branch [
      | in-Need w ↦ omega (arith, (next_is c.next-item.ensures w.in-Need.is).moves)
      | in-Condition w ↦ omega (arith, (next_is c.next-item.ensures w.in-Condition.is).moves)
      | in_default w ↦ before_end c.next-item.result w.in_default.not-End c.next-item.ensures.moves
    ] in
    let same : c.next-item.result ≡ c.match-item.item = elim c.match-item.branch [
      | in-Need w ↦ w.in-Need.is ∙ sym w.item-is
      | in-Condition w ↦ w.in-Condition.is ∙ sym w.item-is
      | in_default w ↦ sym w.item-is
    ] in
    omega (arith, next_ahead inside (next_is c.next-item.ensures same), c.behind-at.ensures)

pub loop-prop-preserved : goal.loop-prop-preserved
unfolding behind
loop-prop-preserved c =
    let inside : c.loop-prop.at < length c.args.part.now = elim c.match-item.branch [
      | in-Need w ↦ omega (arith, (next_is c.next-item.ensures w.in-Need.is).moves)
      | in-Condition w ↦ omega (arith, (next_is c.next-item.ensures w.in-Condition.is).moves)
      | in_default w ↦ before_end c.next-item.result w.in_default.not-End c.next-item.ensures.moves
    ] in
    let same : c.next-item.result ≡ c.match-item.item = elim c.match-item.branch [
      | in-Need w ↦ w.in-Need.is ∙ sym w.item-is
      | in-Condition w ↦ w.in-Condition.is ∙ sym w.item-is
      | in_default w ↦ sym w.item-is
    ] in
    let passed : (x : BlockWantable c.args.part.now c.args.row.now c.args.lows.now c.args.self) → BlockDone x (behind c.match-item.item) c.match-item.self =
    λ x. let d = c.loop-prop.invariant.1 x in
    elim c.match-item.branch [
      | in-Need w ↦ rw (w.self-is, w.item-is) (block_need x d ((next_is c.next-item.ensures w.in-Need.is).found x.ranges d.reading.rest d.reading.left) w.want_prop-self.ensures)
      | in-Condition w ↦
          let f = (next_is c.next-item.ensures w.in-Condition.is).found x.ranges d.reading.rest d.reading.left in
          let z = w.in-Condition.bound in
          rw (w.self-is, w.item-is)
          (block_condition x d f (rw (back_small z (omega (arith, condition_size x d f))) at (w.want_sum-self.ensures (condition_wantable x d f))))
      | in_default w ↦ rw (w.self-is, w.item-is) (block_other x d inside c.next-item.ensures (no_condition c.next-item.result w.in_default.not-Need w.in_default.not-Condition w.in_default.not-End))
    ] in (
      omega (arith, next_ahead inside (next_is c.next-item.ensures same), c.behind-at.ensures),
      λ x. rw c.behind-at.ensures (passed x),
    )
