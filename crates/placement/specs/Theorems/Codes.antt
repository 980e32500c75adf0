-- The answer's three numbers, taken apart, are the answer: no end minute takes more than 32 bits, and no refusal has the number 0.
-- Assumes nothing.
use Rattle.std.specs.Prelude.{◌^◌, ◌<◌, Result, Ok, Err}
use Rattle.model.specs.Theorems.Reading.Places.{Small}
use Rattle.model.specs.Theorems.Sizes.Answers.{place_limit}
use Rattle.placement.specs.declared.Placed.{Placed}
use Rattle.placement.specs.Exports.{placed_at}
use Rattle.model.specs.declared.Refusal.{Refusal}

-- the end minute, and the number of a refusal, are small
abbrev pub PlaceSmall : Result Placed Refusal → Type 0
PlaceSmall (Ok p) = p.end < 2 ^ 32
PlaceSmall (Err r) = Small place_limit (placed_at 0 r)
