-- `write_code` meets its contract. Assumes nothing.
use mathlib.Core.Path.{sym, ap, subst, ◌∙◌}
use Rattle.model.specs.Exports.{write_code}
use Rattle.model.specs.Theorems.Reading.Places.{Small}
use Rattle.model.specs.Theorems.Sizes.Answers.{place_limit, result_limit, WriteSmall}
use Rattle.codes.proofs.write_code.Goals as goal

pub refusal_code-requires : goal.refusal_code-requires
refusal_code-requires c =
    let small : Small place_limit c.in-Err.r =
    subst (WriteSmall result_limit) c.in-Err.is c.requires in
    (small.number, small.place)

pub returns-in-Ok : goal.returns-in-Ok
unfolding write_code
returns-in-Ok c = ap write_code (sym c.in-Ok.is)

pub returns-in-Err : goal.returns-in-Err
unfolding write_code
returns-in-Err c = c.refusal_code.ensures ∙ ap write_code (sym c.in-Err.is)
