-- `check_code` meets its contract. Assumes nothing.
use native.Mathlib.Omega.{arith}
use mathlib.Core.Path.{refl, ap, subst}
use Prim.Native.Nat.{ℕ, ◌+◌, ◌^◌}
use Rattle.model.specs.Theorems.Reading.Places.{Small}
use Rattle.model.specs.Theorems.Sizes.Answers.{place_limit}
use Rattle.schedule.specs.Exports.{check_code, check_index}
use Rattle.schedule.specs.Theorems.Codes.{CheckSmall}
use Rattle.schedule.proofs.Theorems.Codes.{fault_most}
use Rattle.codes.proofs.check_code.Goals as goal

pub overflow_add-result : goal.overflow_add-result
overflow_add-result c = omega (arith, c.fault_number.ensures, fault_most c.in-Ok-Fails.fault)

pub refusal_code-requires : goal.refusal_code-requires
refusal_code-requires c =
    let small : Small place_limit c.in-Err.r = subst CheckSmall c.in-Err.is c.requires in
    (small.number, small.place)

pub returns-in-Ok-Yes : goal.returns-in-Ok-Yes
unfolding check_code check_index
returns-in-Ok-Yes c =
    let same = rw c.in-Ok-Yes.is at c.in-Ok-Yes.field-0-is in
    rw (c.in-Ok-Yes.is, same) (refl, refl)

pub returns-in-Ok-Fails : goal.returns-in-Ok-Fails
unfolding check_code check_index
returns-in-Ok-Fails c =
    let same = rw c.in-Ok-Fails.is at c.in-Ok-Fails.field-0-is in
    rw (c.in-Ok-Fails.is, same) (ap (λ (n : ℕ). 2 ^ 31 + n) c.fault_number.ensures, refl)

pub returns-in-Ok-GoalNotMet : goal.returns-in-Ok-GoalNotMet
unfolding check_code check_index
returns-in-Ok-GoalNotMet c =
    let same = rw c.in-Ok-GoalNotMet.is at c.in-Ok-GoalNotMet.field-0-is in
    rw (c.in-Ok-GoalNotMet.is, same) (refl, refl)

pub returns-in-Err : goal.returns-in-Err
unfolding check_code check_index
returns-in-Err c = rw c.in-Err.is (c.refusal_code.ensures, refl)
