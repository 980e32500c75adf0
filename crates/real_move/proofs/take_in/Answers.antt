-- `take_in` meets its contract: each arm is the law of its command, and the caller's reading gives the room for its operands.
-- Assumes nothing.
use Prim.Native.Nat.{◌+◌, ◌*◌, ◌≤◌}
use native.Mathlib.Omega.{arith}
use mathlib.Core.Path.{refl}
use lib.IntN.{ℤ, pos, nat_abs, ◌+ℤ◌}
use lib.ListN.{get_or}
use Rattle.integer.specs.Linear.{back, back_small, small_fits, op2_back, abs_sum}
use Rattle.model.specs.Limits.{largest_value}
use Rattle.block.specs.Streams.{item_add, item_delete, item_effect}
use Rattle.real_move.specs.Walking.{taken_item, taken_room, taken_add, taken_delete, taken_effect, taken_condition, taken_need, going_add_room, going_delete_room, going_base, going_effect_room, going_value_room, going_value_size}
use Rattle.real_move.proofs.take_in.Goals as goal

pub overflow_mul-at : goal.overflow_mul-at
overflow_mul-at c = omega (arith, taken_room c.requires)

pub overflow_add-at : goal.overflow_add-at
overflow_add-at c = omega (arith, taken_room c.requires)

pub bounds-part-at : goal.bounds-part-at
bounds-part-at c = taken_room c.requires

pub bounds-part-at-in-43 : goal.bounds-part-at-in-43
bounds-part-at-in-43 c = omega (arith, (taken_item c.requires (item_add _ _ _ c.in-43.is)).moves)

pub bounds-next-part : goal.bounds-next-part
bounds-next-part c = omega (arith, going_add_room c.requires.going c.requires.runnable (taken_item c.requires (item_add _ _ _ c.in-43.is)))

pub bounds-part-at-in-45 : goal.bounds-part-at-in-45
bounds-part-at-in-45 c = omega (arith, (taken_item c.requires (item_delete _ _ _ c.in-45.is)).moves)

pub bounds-next-part-in-45 : goal.bounds-next-part-in-45
bounds-next-part-in-45 c = omega (arith, going_delete_room c.requires.going c.requires.runnable (taken_item c.requires (item_delete _ _ _ c.in-45.is)))

pub bounds-part-at-in-70 : goal.bounds-part-at-in-70
bounds-part-at-in-70 c = omega (arith, (taken_item c.requires (item_effect _ _ _ c.in-70.is)).moves)

pub i32_at-requires : goal.i32_at-requires
i32_at-requires c = omega (arith, (taken_item c.requires (item_effect _ _ _ c.in-70.is)).moves)

pub bounds-values-var : goal.bounds-values-var
bounds-values-var c = going_value_room c.requires.going c.requires.runnable (taken_item c.requires (item_effect _ _ _ c.in-70.is))

pub bounds-part-at-in-70-2 : goal.bounds-part-at-in-70-2
bounds-part-at-in-70-2 c = omega (arith, (taken_item c.requires (item_effect _ _ _ c.in-70.is)).moves)

-- the variable's old value, and the sum and the constant
pub changed-requires : goal.changed-requires
changed-requires c =
    let a = c.args in
    let it = taken_item c.requires (item_effect _ _ _ c.in-70.is) in
    let base : nat_abs c.i32_at.result ≤ 1_000_000 = rw c.i32_at.ensures.0 (going_base c.requires.going c.requires.runnable it) in
    let old : ℤ = get_or a.values.now (get_or a.terms.now.part.now (a.terms.now.from + 4 * a.terms.now.count + 2) 0) (pos 0) in
    let size : nat_abs old ≤ largest_value = going_value_size c.requires.going c.requires.runnable it in
    let b = c.i32_at.result in
    let small : nat_abs (a.total +ℤ b) ≤ 8_000_000_001_000_000 = omega (arith, abs_sum a.total b, base, c.requires.sum.sum.small) in
    let sum = op2_back ◌+ℤ◌ a.total b c.ranges.total (small_fits b (omega (arith, base))) (omega (arith, small)) in
    rw (back_small old (omega (arith, size)), sum) (size, small)

pub bounds-next-var : goal.bounds-next-var
bounds-next-var c = omega (arith, going_effect_room c.requires.going c.requires.runnable (taken_item c.requires (item_effect _ _ _ c.in-70.is)))

pub returns-in-43 : goal.returns-in-43
returns-in-43 c = taken_add _ _ c.in-43.is refl

pub returns-in-45 : goal.returns-in-45
returns-in-45 c = taken_delete _ _ c.in-45.is refl

pub returns-in-70 : goal.returns-in-70
returns-in-70 c =
    let a = c.args in
    let it = taken_item c.requires (item_effect _ _ _ c.in-70.is) in
    let base : nat_abs c.i32_at.result ≤ 1_000_000 = rw c.i32_at.ensures.0 (going_base c.requires.going c.requires.runnable it) in
    let old : ℤ = get_or a.values.now (get_or a.terms.now.part.now (a.terms.now.from + 4 * a.terms.now.count + 2) 0) (pos 0) in
    let size : nat_abs old ≤ largest_value = going_value_size c.requires.going c.requires.runnable it in
    let b = c.i32_at.result in
    let small : nat_abs (a.total +ℤ b) ≤ 8_000_000_001_000_000 = omega (arith, abs_sum a.total b, base, c.requires.sum.sum.small) in
    let sum = op2_back ◌+ℤ◌ a.total b c.ranges.total (small_fits b (omega (arith, base))) (omega (arith, small)) in
    let made = rw (back_small old (omega (arith, size)), sum) at c.changed.ensures in
    rw (back c.changed.result c.changed.type_inv) (taken_effect _ _ c.in-70.is refl refl c.i32_at.ensures.0 refl small made)

pub returns-in-67 : goal.returns-in-67
returns-in-67 c = taken_condition _ _ c.in-67.is

pub returns-in_default : goal.returns-in_default
returns-in_default c = taken_need _ _ (λ e. omega arith) (λ e. omega arith) (λ e. omega arith) (λ e. omega arith)

pub overflow_add-result-in_default : goal.overflow_add-result-in_default
overflow_add-result-in_default c = omega (arith, taken_room c.requires)
