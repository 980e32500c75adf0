-- `decide_code` meets its contract. Assumes nothing.
use mathlib.Core.Path.{refl, sym, ap, subst, ◌∙◌}
use native.Mathlib.Omega.{arith}
use Rattle.std.specs.Prelude.{Ok}
use Rattle.model.specs.Exports.{decide_code}
use Rattle.model.specs.Theorems.Reading.Places.{Small}
use Rattle.model.specs.Theorems.Sizes.Answers.{place_limit, DecideSmall}
use Rattle.codes.proofs.decide_code.Goals as goal

pub overflow_add-result : goal.overflow_add-result
overflow_add-result c = record { fits = omega (arith, subst DecideSmall (c.in-Ok-NoPlan.is ∙ ap Ok (rw c.in-Ok-NoPlan.is at c.in-Ok-NoPlan.field-0-is)) c.requires) }

pub refusal_code-requires : goal.refusal_code-requires
refusal_code-requires c =
    let small : Small place_limit c.in-Err.r =
    subst DecideSmall c.in-Err.is c.requires in
    (small.number, small.place)

pub returns-in-Ok-Plan : goal.returns-in-Ok-Plan
unfolding decide_code
returns-in-Ok-Plan c =
    let same = rw c.in-Ok-Plan.is at c.in-Ok-Plan.field-0-is in
    rw (c.in-Ok-Plan.is, same) refl

pub returns-in-Ok-NoPlan : goal.returns-in-Ok-NoPlan
unfolding decide_code
returns-in-Ok-NoPlan c =
    let same = rw c.in-Ok-NoPlan.is at c.in-Ok-NoPlan.field-0-is in
    rw (c.in-Ok-NoPlan.is, same) refl

pub returns-in-Err : goal.returns-in-Err
unfolding decide_code
returns-in-Err c = c.refusal_code.ensures ∙ ap decide_code (sym c.in-Err.is)
