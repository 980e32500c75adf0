-- The answer from what the checks and the walks tell, with what the output holds afterwards. Assumes nothing.
use Rattle.std.specs.Prelude.{ℕ, ◌≤◌, ◌<◌, ◌≡◌, refl, length, Result, Ok, Err, MatchResult, IsErrAnd}
use Rattle.std.proofs.Math.Nat.{zero-add}
use Rattle.std.proofs.Common.{arith, ◌∙◌}
use Rattle.std.proofs.Math.Path.{sym, ap, ap₂}
use mathlib.Core.List.{List, []}
use Rattle.model.specs.declared.Refusal.{Refusal}
use Rattle.model.specs.Memory.{overwrite}
use Rattle.model.specs.Calls.{Output, writes, turns, fitted, output_after}
use Rattle.model.proofs.Theorems.Laws.Booleans.{clash}
use Rattle.model.proofs.Theorems.Printing.Outputs.{fitted_whole, fitted_short}
use Rattle.output.specs.Writing.{written_first}
use Rattle.placement.specs.declared.Placed.{Placed as PlacedAnswer}
use Rattle.placement.specs.Day.{paper_day, first_window, first_duration}
use Rattle.placement.specs.Placing.{Placed, placed, stuck, start_bytes, starts_of, end_minute, checked, day_placed, placing, answered, place_answer, place_out}
use Rattle.placement.specs.Theorems.Answers.{PlaceRight}
use Rattle.placement.proofs.Theorems.Answers.{answer_right}
use Rattle.closure.specs.Walking.{Wrote, Stopped, Walks}

-- the answer of an accepted call
abbrev made : ℕ → ℕ → Result PlacedAnswer Refusal
made end n = Ok (record { end = end; length = n })

-- o is what the call writes, or why it turns back, 13 apart
pub record Filled (ws ds : List ℕ) (o : Output) (old new : List ℕ) (r : Result PlacedAnswer Refusal) : Type 0 where
  pub answer : r ≡ answered (day_placed ws ds) (fitted (length old) o)
  pub output : new ≡ output_after (fitted (length old) o) old

-- the call turns back
pub filled_refused : (ws ds : List ℕ) {o : Output} (old : List ℕ) {q : Refusal} → o ≡ turns q → Filled ws ds o old old (Err q)
unfolding fitted answered output_after
filled_refused ws ds old {q} e = rw e (record { answer = refl; output = refl })

-- an entry has no room
pub filled_stuck :
    (ws ds old : List ℕ) {i : ℕ}
    → Stopped ws ds i
    → Filled ws ds (starts_of (day_placed ws ds)) old old (Err (record { number = 19; place = i }))
unfolding starts_of
filled_stuck ws ds old s = filled_refused ws ds old (ap starts_of s.is)

-- the first walk, whose entry without room is refused with 19
abbrev First : Result ℕ ℕ → Result ℕ Refusal → Type 0
First r m = MatchResult r (λ end. m ≡ Ok end) (λ i. IsErrAnd m (λ q. q ≡ record { number = 19; place = i }))

module _ {ws ds : List ℕ} {m : Result ℕ Refusal} (nothing after : List ℕ) where
  pub first_passed : {end : ℕ} (r : Result ℕ ℕ) → First r m → m ≡ Ok end → Walks ws ds nothing after r → Wrote ws ds nothing after end
  first_passed {end} (Ok other) is e w = let same : other ≡ end = cc in rw (← same) w
  first_passed (Err i) is e w = absurd (rw e at is)

  pub first_refused :
      {q : Refusal} (r : Result ℕ ℕ) (old : List ℕ)
      → First r m
      → m ≡ Err q
      → Walks ws ds nothing after r
      → Filled ws ds (starts_of (day_placed ws ds)) old old (Err q)
  first_refused (Ok end) old is e w = clash cc
  first_refused (Err i) old is e w = rw (rw e at is) (filled_stuck ws ds old w)

-- the starts, none if an entry has no room
starts_in : Placed → List ℕ
starts_in (placed ys end) = ys
starts_in (stuck i) = []

-- all entries have room, as the first walk says
module _ {ws ds nothing after : List ℕ} {end : ℕ} (first : Wrote ws ds nothing after end) (old : List ℕ) where
  bytes_of : List ℕ
  bytes_of = start_bytes first.starts

  size : length ds ≡ length bytes_of
  unfolding bytes_of
  size = first.written.behind ∙ zero-add (length (start_bytes first.starts))

  starts_are : starts_of (day_placed ws ds) ≡ writes bytes_of
  unfolding bytes_of starts_of
  starts_are = ap starts_of first.is

  -- the output is too short for their starts
  pub filled_short : length old < length ds → Filled ws ds (starts_of (day_placed ws ds)) old old (Err (record { number = 13; place = 0 }))
  unfolding answered output_after
  filled_short h =
      let o = ap (fitted (length old)) starts_are ∙ fitted_short (length old) bytes_of (omega (arith, size)) in
      record { answer = sym (ap (answered (day_placed ws ds)) o); output = sym (ap (λ (x : Output). output_after x old) o) }

  -- it is long enough, and the second walk writes them
  pub filled_whole :
      {new : List ℕ} (second : Result ℕ ℕ)
      → length ds ≤ length old
      → Walks ws ds old new second
      → Filled ws ds (starts_of (day_placed ws ds)) old new (Ok (record { end = end; length = length ds }))
  unfolding answered output_after end_minute starts_in bytes_of
  filled_whole (Err i) h w = clash (let e = sym first.is ∙ w.is in cc)
  filled_whole (Ok other) h w =
      let o = ap (fitted (length old)) starts_are ∙ fitted_whole (length old) bytes_of (omega (arith, size)) in
      record {
        answer = ap₂ made (sym (ap end_minute first.is)) size ∙ sym (ap (answered (day_placed ws ds)) o);
        output =
            written_first w.written h
            ∙ ap (λ (ys : List ℕ). overwrite (start_bytes ys) old) (ap starts_in (sym w.is ∙ first.is))
            ∙ sym (ap (λ (x : Output). output_after x old) o);
      }

-- ---- the call

pub place_answer_lem :
    (ws ds old : List ℕ) {o : Output} {new : List ℕ} {r : Result PlacedAnswer Refusal}
    → checked (first_window paper_day ws) (first_duration paper_day ds) (starts_of (day_placed ws ds)) ≡ o
    → Filled ws ds o old new r
    → (r ≡ place_answer paper_day ws ds old) × (new ≡ place_out paper_day ws ds old) × PlaceRight paper_day ws ds old new r
unfolding place_answer place_out placing
place_answer_lem ws ds old is f =
    let p = ap (fitted (length old)) (sym is) in
    let a = f.answer ∙ ap (answered (day_placed ws ds)) p in
    let b = f.output ∙ ap (λ (x : Output). output_after x old) p in
    (a, b, rw (a, b) (answer_right paper_day ws ds old (unfold paper_day in (omega arith))))
