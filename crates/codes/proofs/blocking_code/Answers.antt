-- `blocking_code` meets its contract. Assumes nothing.
use mathlib.Core.Path.{refl, sym, ap, subst, ◌∙◌}
use Rattle.model.specs.Exports.{blocking_code}
use Rattle.model.specs.Theorems.Reading.Places.{Small}
use Rattle.model.specs.Theorems.Sizes.Answers.{place_limit, BlockingSmall}
use Rattle.codes.proofs.blocking_code.Goals as goal

pub refusal_code-requires : goal.refusal_code-requires
refusal_code-requires c =
    let small : Small place_limit c.in-Err.r =
    subst BlockingSmall c.in-Err.is c.requires in
    (small.number, small.place)

pub returns-in-Ok-Some : goal.returns-in-Ok-Some
unfolding blocking_code
returns-in-Ok-Some c =
    let same = rw c.in-Ok-Some.is at c.in-Ok-Some.field-0-is in
    rw (c.in-Ok-Some.is, same) refl

pub returns-in-Ok-None : goal.returns-in-Ok-None
unfolding blocking_code
returns-in-Ok-None c =
    let same = rw c.in-Ok-None.is at c.in-Ok-None.field-0-is in
    rw (c.in-Ok-None.is, same) refl

pub returns-in-Err : goal.returns-in-Err
unfolding blocking_code
returns-in-Err c = c.refusal_code.ensures ∙ ap blocking_code (sym c.in-Err.is)
