-- The answer's two numbers, taken apart, are the answer: the length of a state takes less than 31 bits, and no refusal has the number 0.
-- Assumes nothing.
use Rattle.std.specs.Prelude.{◌≤◌, Result, Ok, Err}
use Rattle.model.specs.Theorems.Reading.Places.{Small}
use Rattle.model.specs.Theorems.Sizes.Answers.{place_limit}
use Rattle.schedule.specs.declared.CheckAnswer.{CheckAnswer}
use Rattle.schedule.specs.declared.CheckAnswer.TheVariants as check
use Rattle.model.specs.declared.Refusal.{Refusal}

-- the length of the end state, and number and place of a refusal, are small
abbrev pub CheckSmall : Result CheckAnswer Refusal → Type 0
CheckSmall (Ok (check.Yes n)) = n ≤ 184
CheckSmall (Ok (check.Fails i f)) = Unit {0}
CheckSmall (Ok check.GoalNotMet) = Unit {0}
CheckSmall (Err r) = Small place_limit r
