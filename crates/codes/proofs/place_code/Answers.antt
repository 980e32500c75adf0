-- `place_code` meets its contract. Assumes nothing.
use native.Mathlib.Omega.{arith}
use mathlib.Core.Path.{refl, subst}
use Rattle.model.specs.Theorems.Reading.Places.{Small}
use Rattle.model.specs.Theorems.Sizes.Answers.{place_limit}
use Rattle.placement.specs.Exports.{placed_at, place_code, place_length, place_place}
use Rattle.placement.specs.Theorems.Codes.{PlaceSmall}
use Rattle.codes.proofs.place_code.Goals as goal

pub refusal_code-requires : goal.refusal_code-requires
unfolding placed_at
refusal_code-requires c =
    let small : Small place_limit (placed_at 0 c.in-Err.r) =
    subst PlaceSmall c.in-Err.is c.requires in
    (small.number, omega arith)

pub returns-in-Ok : goal.returns-in-Ok
unfolding place_code place_length place_place
returns-in-Ok c = rw c.in-Ok.is (refl, refl, refl)

pub returns-in-Err : goal.returns-in-Err
unfolding place_code place_length place_place placed_at
returns-in-Err c = rw c.in-Err.is (c.refusal_code.ensures, refl, refl)
