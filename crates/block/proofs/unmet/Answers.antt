-- `unmet` meets its contract. The invariant: the items that are left decide. The measure is what is left of the part.
-- Assumes nothing.
use Prim.Native.Nat.{◌+◌, ◌-◌, ◌≤◌, ◌<◌}
use native.Mathlib.Omega.{arith}
use mathlib.Core.Path.{◌≡◌, refl, sym, ◌∙◌, subst}
use lib.ListN.{length}
use Rattle.integer.proofs.BigEndian.{length_signed_bytes}
use Rattle.integer.specs.Linear.{back_small}
use Rattle.model.specs.Task.{need, add, delete, condition, effect, Block}
use Rattle.model.specs.Layer.{Layer, holds_in}
use Rattle.model.specs.Theorems.Printing.Items.{item_operands, closing}
use Rattle.model.specs.Theorems.Blocking.Parts.{unmet_size}
use Rattle.block.specs.Items.{Ranges, Left, readable, next_ahead}
use Rattle.block.specs.Blocks.{Walk, Passing, walk_start, walk_found, walk_next, next_is, LayerState, condition_bound, layer_summable, layer_condition_test}
use Rattle.block.specs.Unmet.{unmet_met, unmet_here, unmet_end}
use Rattle.block.proofs.Passed.{no_condition, before_end}
use Rattle.block.proofs.unmet.Invariants.{Over}
use Rattle.block.proofs.unmet.Goals as goal
use Rattle.block.proofs.unmet.Goals.{in-Need+else-not-has-prop, in-Condition+else-not-condition_reached, in_default, Then-not-has-prop, Then-not-condition_reached, After-behind-at}

pub loop-prop-init : goal.loop-prop-init
loop-prop-init c = walk_start (Over _ _) unmet_size c.requires.left.bytes.within

pub next-item-requires : goal.next-item-requires
next-item-requires c =
    let p = c.requires in
    readable (c.loop-prop.invariant.reading p.ranges p.block p.over p.left p.row).left

pub bounds-has-prop : goal.bounds-has-prop
bounds-has-prop c =
    let p = c.requires in
    omega (arith, p.row.long, (walk_found (Over _ _) unmet_size c.loop-prop.invariant p.ranges p.block p.over p.left p.row (next_is c.next-item.ensures c.in-Need.is)).ok)

lacked : (c : Then-not-has-prop) → (k : Ranges) (b : Block) (l : Layer) → let a = c.args in Left k a.part.now 1 b → LayerState k a.has.now a.layer.now l → (2 ≤ c.in-Need.after) × (c.in-Need.after - 2 + unmet_size l b ≡ length a.part.now)
unfolding closing item_operands holds_in
lacked c = λ k b l left state. let f = walk_found (Over _ _) unmet_size c.loop-prop.invariant k b l left state (next_is c.next-item.ensures c.in-Need.is) in
    unmet_here l b (c.loop-prop.invariant.reading k b l left state) f (sym (state.has _ f.ok) ∙ c.if-not-has-prop.true)

pub overflow_sub-result : goal.overflow_sub-result
unfolding closing item_operands holds_in
overflow_sub-result c =
    let p = c.requires in
    omega (arith, (lacked (goal.at.overflow_sub-result c).Then-not-has-prop p.ranges p.block p.over p.left p.row).0)

pub returns-then-not-has-prop : goal.returns-then-not-has-prop
unfolding closing item_operands holds_in
returns-then-not-has-prop c =
    record { is = λ k b l left state. (lacked (goal.at.returns-then-not-has-prop c).Then-not-has-prop k b l left state).1 }

pub condition_reached-requires : goal.condition_reached-requires
condition_reached-requires c =
    let p = c.requires in
    layer_summable
    (walk_found (Over _ _) unmet_size c.loop-prop.invariant p.ranges p.block p.over p.left p.row (next_is c.next-item.ensures c.in-Condition.is)).is.terms
    p.row.row

pub returns-in-End : goal.returns-in-End
returns-in-End c =
    record {
      is =
          λ k b l left state.
          unmet_end l b (c.loop-prop.invariant.reading k b l left state)
          (walk_found (Over _ _) unmet_size c.loop-prop.invariant k b l left state (next_is c.next-item.ensures c.in-End.is));
    }

missed : (c : Then-not-condition_reached) → (k : Ranges) (b : Block) (l : Layer) → let a = c.args in Left k a.part.now 1 b → LayerState k a.has.now a.layer.now l → (6 ≤ c.in-Condition.after) × (c.in-Condition.after - 6 + unmet_size l b ≡ length a.part.now)
unfolding closing item_operands
missed c = λ k b l left state. let f = walk_found (Over _ _) unmet_size c.loop-prop.invariant k b l left state (next_is c.next-item.ensures c.in-Condition.is) in
    let h = unmet_here l b (c.loop-prop.invariant.reading k b l left state) f.followed
    (layer_condition_test l state.row f.is (rw (back_small c.in-Condition.bound (omega (arith, condition_bound f.is))) at c.condition_reached.ensures)
    ∙ c.if-not-condition_reached.true) in
    let long = length_signed_bytes 4 f.it.bound in
    (omega (arith, h.0, long), omega (arith, h.1, long))

pub overflow_sub-result-then-not-condition_reached : goal.overflow_sub-result-then-not-condition_reached
unfolding closing item_operands
overflow_sub-result-then-not-condition_reached c =
    let p = c.requires in
    omega (arith, (missed (goal.at.overflow_sub-result-then-not-condition_reached c).Then-not-condition_reached p.ranges p.block p.over p.left p.row).0)

pub returns-then-not-condition_reached : goal.returns-then-not-condition_reached
unfolding closing item_operands
returns-then-not-condition_reached c =
    record { is = λ k b l left state. (missed (goal.at.returns-then-not-condition_reached c).Then-not-condition_reached k b l left state).1 }

same : (c : After-behind-at) → c.next-item.result ≡ c.match-item.item
same c = elim c.match-item.branch [
  | in-Need+else-not-has-prop w ↦ w.in-Need.is ∙ sym w.item-is
  | in-Condition+else-not-condition_reached w ↦ w.in-Condition.is ∙ sym w.item-is
  | in_default w ↦ sym w.item-is
]

inside : (c : After-behind-at) → c.loop-prop.at < length c.args.part.now
inside c = elim c.match-item.branch [
  | in-Need+else-not-has-prop w ↦ omega (arith, (next_is c.next-item.ensures w.in-Need.is).moves)
  | in-Condition+else-not-condition_reached w ↦ omega (arith, (next_is c.next-item.ensures w.in-Condition.is).moves)
  | in_default w ↦ before_end c.next-item.result w.in_default.not-End c.next-item.ensures.moves
]

pub loop-prop-smaller : goal.loop-prop-smaller
loop-prop-smaller c =
    let t = next_is c.next-item.ensures (same (goal.at.loop-prop-smaller c).After-behind-at) in
    omega (arith, next_ahead (inside (goal.at.loop-prop-smaller c).After-behind-at) t, c.behind-at.ensures)

pub loop-prop-preserved : goal.loop-prop-preserved
unfolding holds_in
loop-prop-preserved c =
    let passes : Passing c.args.part.now (Over c.args.has.now c.args.layer.now) unmet_size c.match-item.item =
    elim c.match-item.branch [
      | in-Need+else-not-has-prop w ↦ subst (Passing c.args.part.now (Over c.args.has.now c.args.layer.now) unmet_size) (sym w.item-is)
          (λ k s v h. unmet_met s (need _) (sym (v.has _ h) ∙ w.if-not-has-prop.false))
      | in-Condition+else-not-condition_reached w ↦ subst (Passing c.args.part.now (Over c.args.has.now c.args.layer.now) unmet_size) (sym w.item-is)
          (λ k s q v h.
          unmet_met s (condition q)
          (layer_condition_test s v.row h (rw (back_small w.in-Condition.bound (omega (arith, condition_bound h))) at w.condition_reached.ensures)
          ∙ w.if-not-condition_reached.false))
      | in_default w ↦ subst (Passing c.args.part.now (Over c.args.has.now c.args.layer.now) unmet_size) (sym w.item-is)
          (no_condition c.args.part.now (Over _ _) unmet_size (λ s p. unmet_met s (add p) refl) (λ s p. unmet_met s (delete p) refl) (λ s e. unmet_met s (effect e) refl)
          c.next-item.result w.in_default.not-Need w.in_default.not-Condition w.in_default.not-End)
    ] in
    subst (Walk _ (Over _ _) unmet_size) (sym c.behind-at.ensures)
    (walk_next (Over _ _) unmet_size c.loop-prop.invariant (inside (goal.at.loop-prop-preserved c).After-behind-at) (next_is c.next-item.ensures (same (goal.at.loop-prop-preserved c).After-behind-at)) passes)
