-- `plan_code` meets its contract. Assumes nothing.
use mathlib.Core.Path.{refl, ap, subst, ◌∙◌}
use native.Mathlib.Omega.{arith}
use Rattle.std.specs.Prelude.{Ok}
use Rattle.model.specs.Exports.{plan_code, plan_record_count, plan_first_moves}
use Rattle.model.specs.Theorems.Reading.Places.{Small}
use Rattle.model.specs.Theorems.Sizes.Answers.{place_limit, PlanSmall}
use Rattle.codes.proofs.plan_code.Goals as goal

pub overflow_add-result : goal.overflow_add-result
overflow_add-result c = record { fits = omega (arith, (subst PlanSmall (c.in-Ok-NoPlan.is ∙ ap Ok (rw c.in-Ok-NoPlan.is at c.in-Ok-NoPlan.field-0-is)) c.requires).0) }

pub refusal_code-requires : goal.refusal_code-requires
refusal_code-requires c =
    let small : Small place_limit c.in-Err.refusal =
    subst PlanSmall c.in-Err.is c.requires in
    (small.number, small.place)

pub returns-in-Ok-Plan : goal.returns-in-Ok-Plan
unfolding plan_code plan_record_count plan_first_moves
returns-in-Ok-Plan c =
    let same = rw c.in-Ok-Plan.is at c.in-Ok-Plan.field-0-is in
    rw (c.in-Ok-Plan.is, same) (refl, refl, refl)

pub returns-in-Ok-NoPlan : goal.returns-in-Ok-NoPlan
unfolding plan_code plan_record_count plan_first_moves
returns-in-Ok-NoPlan c =
    let same = rw c.in-Ok-NoPlan.is at c.in-Ok-NoPlan.field-0-is in
    rw (c.in-Ok-NoPlan.is, same) (refl, refl, refl)

pub returns-in-Err : goal.returns-in-Err
unfolding plan_code plan_record_count plan_first_moves
returns-in-Err c = rw c.in-Err.is (c.refusal_code.ensures, refl, refl)
