-- `read_code` meets its contract. Assumes nothing.
use mathlib.Core.Path.{sym, ap, subst, ◌∙◌}
use Rattle.model.specs.Exports.{read_code}
use Rattle.model.specs.Theorems.Reading.Places.{Small}
use Rattle.model.specs.Theorems.Sizes.Answers.{place_limit, ReadSmall}
use Rattle.codes.proofs.read_code.Goals as goal

pub refusal_code-requires : goal.refusal_code-requires
refusal_code-requires c =
    let small : Small place_limit c.in-Err.r =
    subst ReadSmall c.in-Err.is c.requires in
    (small.number, small.place)

pub returns-in-Ok : goal.returns-in-Ok
unfolding read_code
returns-in-Ok c = ap read_code (sym c.in-Ok.is)

pub returns-in-Err : goal.returns-in-Err
unfolding read_code
returns-in-Err c = c.refusal_code.ensures ∙ ap read_code (sym c.in-Err.is)
