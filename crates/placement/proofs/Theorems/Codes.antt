-- The answer's three numbers, taken apart, are the answer: no end minute takes more than 32 bits, and no refusal has the number 0.
-- Assumes nothing.
use Rattle.std.specs.Prelude.{ℕ, ◌^◌, ◌<◌, ◌≡◌, List, Result, Ok, Err}
use Rattle.std.proofs.Common.{arith}
use Rattle.model.specs.Theorems.Reading.Places.{Small}
use Rattle.model.specs.Theorems.Sizes.Answers.{place_limit}
use Rattle.model.proofs.Theorems.Campaigns.Codes.{result_apart, refusal_apart}
use Rattle.placement.specs.declared.Placed.{Placed}
use Rattle.placement.specs.Day.{DayLimits, paper_day, windows_of, durations_of}
use Rattle.placement.specs.Placing.{place_answer, place_out}
use Rattle.placement.specs.Exports.{placed_at, place_code, place_length, place_place, place_apart}
use Rattle.placement.proofs.Theorems.Starts.{windows_shut, end_by}
use Rattle.placement.specs.Theorems.Answers.{Turned, window, duration, without, short, PlaceRight}
use Rattle.placement.proofs.Theorems.Answers.{answer_right}
use Rattle.placement.specs.Theorems.Codes.{PlaceSmall}
use Rattle.model.specs.declared.Refusal.{Refusal}

module _ (L : DayLimits) (ws ds old new : List ℕ) where
  turned_small : {n p : ℕ} → Turned L ws ds old new n p → Small place_limit (record { number = n; place = 0 })
  turned_small (window h wrong before) = record { positive = omega arith; number = omega arith; place = omega arith }
  turned_small (duration windows h wrong before) = record { positive = omega arith; number = omega arith; place = omega arith }
  turned_small (without ok first) = record { positive = omega arith; number = omega arith; place = omega arith }
  turned_small (short ok b less) = record { positive = omega arith; number = omega arith; place = omega arith }

  right_small : L.last_minute < 2 ^ 32 → (r : Result Placed Refusal) → PlaceRight L ws ds old new r → PlaceSmall r
  unfolding placed_at
  right_small few (Ok p) right =
      let most = end_by L.last_minute (windows_of ws) 0 (durations_of ds) right.starts (windows_shut right.day.windows) (omega arith) right.best.placement in
      omega (arith, right.best.ends, most)
  right_small few (Err r) right = turned_small right.0

pub place_small : (ws ds out : List ℕ) → PlaceSmall (place_answer paper_day ws ds out)
unfolding paper_day
place_small ws ds out = right_small paper_day ws ds out (place_out paper_day ws ds out) (omega arith) (place_answer paper_day ws ds out) (answer_right paper_day ws ds out (omega arith))

-- an answer from its numbers; the two further ones held x and y before
pub place_back : (a : Result Placed Refusal) → PlaceSmall a → (x y : ℕ) → place_apart (place_code a) (place_length a x) (place_place a y) ≡ a
unfolding place_apart place_code place_length place_place placed_at
place_back (Ok p) small x y = result_apart _ _ p.end small
place_back (Err r) small x y = refusal_apart _ _ (placed_at 0 r) small

pub place_apart_lem :
    (ws ds out : List ℕ) (x y : ℕ) → let a = place_answer paper_day ws ds out in place_apart (place_code a) (place_length a x) (place_place a y) ≡ a
place_apart_lem ws ds out x y = place_back (place_answer paper_day ws ds out) (place_small ws ds out) x y
