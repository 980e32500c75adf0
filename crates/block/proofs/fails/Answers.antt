-- `fails` meets its contract: a proposition that is false, a sum that does not compare so, or no condition. Assumes nothing.
use native.Mathlib.Omega.{arith}
use mathlib.Core.Path.{◌≡◌, refl, ap, ◌∙◌}
use mathlib.Core.Bool.{Bool, true, false, not}
use Rattle.integer.specs.Linear.{back}
use Rattle.model.specs.Move.{compares}
use Rattle.block.specs.Streams.{judged_room, need_within, need_room, condition_within, judge_need, judge_condition, judge_other}
use Rattle.block.proofs.fails.Goals as goal

pub overflow_mul-at : goal.overflow_mul-at
overflow_mul-at c = omega (arith, judged_room c.requires)

pub overflow_add-at : goal.overflow_add-at
overflow_add-at c = omega (arith, judged_room c.requires)

pub bounds-part-at : goal.bounds-part-at
bounds-part-at c = judged_room c.requires

pub overflow_add-result : goal.overflow_add-result
overflow_add-result c = omega (arith, need_within c.requires c.in-80.is)

pub bounds-part-at-in-80 : goal.bounds-part-at-in-80
bounds-part-at-in-80 c = omega (arith, need_within c.requires c.in-80.is)

pub bounds-has-part : goal.bounds-has-part
bounds-has-part c = need_room c.requires c.in-80.is

pub overflow_add-at-in-67 : goal.overflow_add-at-in-67
overflow_add-at-in-67 c = omega (arith, condition_within c.requires c.in-67.is)

pub bounds-part-at-in-67 : goal.bounds-part-at-in-67
bounds-part-at-in-67 c = omega (arith, condition_within c.requires c.in-67.is)

pub overflow_add-at-in-67-2 : goal.overflow_add-at-in-67-2
overflow_add-at-in-67-2 c = omega (arith, condition_within c.requires c.in-67.is)

pub i32_at-requires : goal.i32_at-requires
i32_at-requires c = omega (arith, condition_within c.requires c.in-67.is)

twice : (b : Bool) → not (not b) ≡ b
twice true = refl
twice false = refl

pub returns-in-80 : goal.returns-in-80
returns-in-80 c = judge_need c.in-80.is (twice _)

pub returns-in-67 : goal.returns-in-67
returns-in-67 c =
    judge_condition c.in-67.is
    (λ o e.
    twice _
    ∙ rw (back c.i32_at.result c.i32_at.type_inv, back c.args.total c.ranges.total.sfits) at (c.compare.ensures o e)
    ∙ ap (compares o c.args.total) c.i32_at.ensures.0)

pub returns-in_default : goal.returns-in_default
returns-in_default c = judge_other c.in_default.in_default-own.rest.0.1 c.in_default.in_default-own.rest.1
