-- `grow` meets its contract. The invariant: layer `t` is the last one stored, and stands in `layer`; the moves marked as used are
-- usable in it. The measure is what is left of the bound on layers. Assumes nothing.
use Prim.Native.Nat.{◌-◌}
use mathlib.Core.Path.{◌≡◌, refl, ap, ◌∙◌}
use borrow.Rule.Slice.PartMut.{put_mid, same_len_mid}
use lib.ListN.{length}
use Rattle.std.specs.Prelude.{Ok}
use Rattle.layers.specs.Building.{growing_start, growing_next, goal_testable_at, steppable_at, reached_at, exhausted_at, stopped_at, below_bound, new_room, next_at, grows_now, end_within, front_within, moves_few, layers_few, props_within, memory_room}
use native.Mathlib.Omega.{arith}
use Rattle.layers.proofs.grow.Goals as goal
use Rattle.layers.proofs.grow.Goals.{After-step, After-note}

pub overflow_add-end : goal.overflow_add-end
overflow_add-end c = omega (arith, memory_room c.requires.outlined c.requires.counts c.requires.layered)

pub overflow_add-end-2 : goal.overflow_add-end-2
overflow_add-end-2 c = omega (arith, memory_room c.requires.outlined c.requires.counts c.requires.layered)

pub loop-layer-init : goal.loop-layer-init
loop-layer-init c = record { used_long = refl; growing = growing_start }

pub goal_met-requires : goal.goal_met-requires
goal_met-requires c =
    let p = c.requires in
    goal_testable_at p.outlined p.counts (grows_now p c.loop-layer.invariant.growing).layered

pub returns-then-goal_met : goal.returns-then-goal_met
returns-then-goal_met c =
    let g = c.loop-layer.invariant.growing in
    record { is = λ k s old o n a. reached_at o n (g.is k s old o n a).layered c.goal_met.ensures c.if-goal_met.true }

pub overflow_add-place : goal.overflow_add-place
overflow_add-place c = omega (arith, layers_few c.requires c.loop-layer.invariant.growing)

pub offset_bounds-layers-end : goal.offset_bounds-layers-end
offset_bounds-layers-end c = omega (arith, end_within c.requires c.loop-layer.invariant.growing, c.loop-layer.invariant.growing.same_length)

pub slice_bounds-behind-count : goal.slice_bounds-behind-count
slice_bounds-behind-count c = end_within c.requires c.loop-layer.invariant.growing

pub slice_bounds-behind-start : goal.slice_bounds-behind-start
slice_bounds-behind-start c = end_within c.requires c.loop-layer.invariant.growing

pub step-requires : goal.step-requires
step-requires c =
    let p = c.requires in
    let i = c.loop-layer.invariant in
    steppable_at p.outlined p.counts (grows_now p i.growing).layered (omega (arith, moves_few p i.growing, i.used_long))

-- the memory keeps its length
after_long : (c : After-step) → length (put_mid c.loop-layer.end (length c.loop-layer.layers - c.loop-layer.end) c.loop-layer.layers c.step.new.behind) ≡ length c.loop-layer.layers
after_long c = let l = c.loop-layer in same_len_mid l.end (length l.layers - l.end) l.layers c.step.new.behind c.step.auto.behind

stored_long : (c : After-note) → length c.note.new.entries ≡ length c.loop-layer.layers
stored_long c = let l = c.loop-layer in c.note.auto.entries ∙ c.note_moves-in-Ok-New.auto.layers ∙ same_len_mid l.end (length l.layers - l.end) l.layers c.step.new.behind c.step.auto.behind

pub returns-in-Err : goal.returns-in-Err
returns-in-Err c =
    let g = c.loop-layer.invariant.growing in
    rw c.at.ensures
    (record {
      is =
          λ k s old o n a.
          let h = g.is k s old o n a in
          stopped_at o n h.layered c.goal_met.ensures c.if-goal_met.false g.end_is h.used_in c.step.ensures.0 c.in-Err.is;
    })

pub note_moves-requires : goal.note_moves-requires
note_moves-requires c =
    let p = c.requires in
    let i = c.loop-layer.invariant in (
      omega (arith, front_within p i.growing, after_long (goal.at.note_moves-requires c).After-step),
      omega (arith, c.step.ensures.0.same_used, i.used_long, moves_few p i.growing),
      omega (arith, layers_few p i.growing),
    )

pub returns-in-Ok-Same : goal.returns-in-Ok-Same
returns-in-Ok-Same c =
    let g = c.loop-layer.invariant.growing in
    record {
      is =
          λ k s old o n a.
          let h = g.is k s old o n a in
          exhausted_at o n h.layered c.goal_met.ensures c.if-goal_met.false g.end_is h.used_in c.step.ensures.0
          (c.in-Ok-Same.is ∙ ap Ok c.in-Ok-Same.field-0-is)
          c.note_moves.ensures;
    }

pub note_moves-requires-in-Ok-New : goal.note_moves-requires-in-Ok-New
note_moves-requires-in-Ok-New c =
    let p = c.requires in
    let i = c.loop-layer.invariant in (
      omega (arith, front_within p i.growing, after_long (goal.at.note_moves-requires-in-Ok-New c).After-step),
      omega (arith, c.step.ensures.0.same_used, i.used_long, moves_few p i.growing),
      omega (arith, layers_few p i.growing),
    )

pub note-requires : goal.note-requires
note-requires c =
    let p = c.requires in
    let i = c.loop-layer.invariant in (
      omega (arith, front_within p i.growing, c.note_moves-in-Ok-New.auto.layers, after_long (goal.at.note-requires c).After-step),
      omega (arith, props_within p i.growing, c.step.ensures.0.same_flags),
      omega (arith, layers_few p i.growing),
    )

pub overflow_add-end-in-Ok-New : goal.overflow_add-end-in-Ok-New
overflow_add-end-in-Ok-New c =
    let p = c.requires in
    let g = c.loop-layer.invariant.growing in
    let h = grows_now p g in
    omega (arith, new_room p.outlined p.counts h.layered c.goal_met.ensures c.if-goal_met.false g.end_is h.used_in c.step.ensures.0 (c.in-Ok-New.is ∙ ap Ok c.in-Ok-New.field-0-is), g.same_length)

pub loop-layer-smaller : goal.loop-layer-smaller
loop-layer-smaller c =
    let p = c.requires in
    let g = c.loop-layer.invariant.growing in
    let h = grows_now p g in
    omega (arith, below_bound p.outlined p.counts h.layered c.goal_met.ensures c.if-goal_met.false g.end_is h.used_in c.step.ensures.0 (c.in-Ok-New.is ∙ ap Ok c.in-Ok-New.field-0-is))

pub loop-layer-preserved : goal.loop-layer-preserved
loop-layer-preserved c =
    let i = c.loop-layer.invariant in
    let g = i.growing in
    record {
      used_long = c.step.ensures.0.same_used ∙ i.used_long;
      growing =
          growing_next g (stored_long (goal.at.loop-layer-preserved c).After-note)
          (λ k s old o n h.
          next_at o n h.layered c.goal_met.ensures c.if-goal_met.false g.end_is h.used_in c.step.ensures.0 (c.in-Ok-New.is ∙ ap Ok c.in-Ok-New.field-0-is)
          c.step.ensures.1 c.note_moves-in-Ok-New.ensures c.note.ensures);
    }
