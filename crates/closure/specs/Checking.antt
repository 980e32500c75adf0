-- What the loops over windows and durations know: faults by a test of each. Assumes nothing.
use Rattle.std.specs.Prelude.{ℕ, zero, suc, ◌+◌, ◌*◌, ◌/◌, ◌%◌, ◌≤◌, ◌<◌, ◌≡◌, min, Bool, true, false, List, T, Option as Maybe, Some, None, MatchOption}
use Rattle.std.proofs.Common.{arith, sym, ◌∙◌}
use Rattle.std.proofs.Math.Path.{refl, ap}
use Rattle.std.proofs.Math.Option.{Option, none, some}
use Rattle.model.specs.Calls.{Output, turns}
use Rattle.model.proofs.Theorems.Laws.Booleans.{false_not, clash}
use Rattle.placement.specs.Day.{paper_day, window_at, pieces, wrong_window, wrong_duration, first_window, first_duration}
use Rattle.placement.specs.Placing.{checked}
use Rattle.placement.specs.Theorems.Checks.{WindowOk, WindowsOk, DurationOk, DurationsOk}
use Rattle.std.proofs.lemmas.Grind.{div_ceil_times}
use Rattle.placement.proofs.Theorems.Checks.{begins_piece, pieces_end, same_test, right_window, wrong_window_lem, windows_cases, right_duration, wrong_duration_holds, durations_cases}
use Rattle.placement.specs.Theorems.Answers.{DayOk}

-- the number of the first window or duration at fault, if any
unfoldable pub fault_of : Maybe ℕ → Option ℕ
fault_of (Some i) = some i
fault_of None = none

-- how many there are: the bytes over the size of one, rounded up
pub count_pieces : (size n : ℕ) → 0 < size → n / size + min 1 (n % size) ≡ pieces size n
count_pieces size n some_size = let h = div_ceil_times n size some_size in go (n / size + min 1 (n % size)) h.0 h.1
  where
    go : (q : ℕ) → n ≤ q * size → q * size < n + size → q ≡ pieces size n
    go zero least most = let e : pieces size n ≤ 0 = pieces_end size n some_size 0 (omega arith) in omega arith
    go (suc q) least most =
        let e : pieces size n ≤ suc q = pieces_end size n some_size (suc q) (omega arith) in
        let f : q < pieces size n = begins_piece size n some_size q (omega arith) in
        omega arith

-- ---- one window, one duration

module _ {ws : List ℕ} {i : ℕ} where
  -- the last test tells
  pub window_by : (b : Bool) → (T b → WindowOk paper_day ws i → ⊥) → ((T b → ⊥) → WindowOk paper_day ws i) → b ≡ wrong_window paper_day ws i
  window_by = same_test (WindowOk paper_day ws i) (wrong_window paper_day ws i) (right_window paper_day ws i) (wrong_window_lem paper_day ws i)

  pub window_wrong : (WindowOk paper_day ws i → ⊥) → true ≡ wrong_window paper_day ws i
  window_wrong bad = window_by true (λ t. bad) (λ f. absurd (f tt))

  pub window_passed : {b : Bool} → b ≡ wrong_window paper_day ws i → b ≡ false → WindowOk paper_day ws i
  window_passed is passed = right_window paper_day ws i (false_not (sym is ∙ passed))

module _ {ds : List ℕ} {i : ℕ} where
  pub duration_by : (b : Bool) → (T b → DurationOk paper_day ds i → ⊥) → ((T b → ⊥) → DurationOk paper_day ds i) → b ≡ wrong_duration paper_day ds i
  duration_by = same_test (DurationOk paper_day ds i) (wrong_duration paper_day ds i) (right_duration paper_day ds i) (wrong_duration_holds paper_day ds i)

  pub duration_wrong : (DurationOk paper_day ds i → ⊥) → true ≡ wrong_duration paper_day ds i
  duration_wrong bad = duration_by true (λ t. bad) (λ f. absurd (f tt))

-- the minute at which the window in front of window i shuts, 0 in front of the first
pub record ShutBefore (ws : List ℕ) (i before : ℕ) : Type 0 where
  pub first : i ≡ 0 → before ≡ 0
  pub behind : (j : ℕ) → i ≡ suc j → before ≡ (window_at ws j).shutting

pub shut_first : (ws : List ℕ) → ShutBefore ws 0 0
shut_first ws = record { first = λ e. refl; behind = λ j e. absurd (omega arith) }

pub shut_next : (ws : List ℕ) (i : ℕ) {before : ℕ} → before ≡ (window_at ws i).shutting → ShutBefore ws (i + 1) before
shut_next ws i same =
    record { first = λ e. absurd (omega arith); behind = λ j e. let k : i ≡ j = omega arith in rw (← k) same }

-- one that opens before is at fault
pub overlap : {ws : List ℕ} {i before : ℕ} → ShutBefore ws i before → WindowOk paper_day ws i → (window_at ws i).opening < before → ⊥
overlap {ws} {i} {before} s ok h = go i refl
  where
    go : (k : ℕ) → i ≡ k → ⊥
    go zero e = omega (arith, s.first e)
    go (suc j) e = omega (arith, s.behind j e, ok.behind j e)

-- ---- the first fault of the day

-- a fault is refused as a window's or as a duration's; without one both lists are as they should be
abbrev pub FirstFault : List ℕ → List ℕ → Maybe ℕ → Type 0
FirstFault ws ds (Some i) = (rest : Output) → checked (first_window paper_day ws) (first_duration paper_day ds) rest ≡ turns (record { number = 18; place = i })
FirstFault ws ds None = DayOk paper_day ws ds × ((rest : Output) → checked (first_window paper_day ws) (first_duration paper_day ds) rest ≡ rest)

some_none : {i : ℕ} → some i ≡ none → ⊥
some_none e = clash cc

windows_right : (ws : List ℕ) → none ≡ first_window paper_day ws → WindowsOk paper_day ws
windows_right ws e =
    windows_cases paper_day ws (λ (o : Option ℕ). none ≡ o → WindowsOk paper_day ws) (λ i h wrong before same. absurd (some_none (sym same))) (λ ok same. ok) e

durations_right : (ds : List ℕ) → none ≡ first_duration paper_day ds → DurationsOk paper_day ds
durations_right ds e =
    durations_cases paper_day ds (λ (o : Option ℕ). none ≡ o → DurationsOk paper_day ds) (λ i h wrong before same. absurd (some_none (sym same))) (λ ok same. ok) e

module _ (ws ds : List ℕ) where
  -- a window is at fault
  pub fault_window : {i : ℕ} → some i ≡ first_window paper_day ws → FirstFault ws ds (Some i)
  unfolding checked
  fault_window e = λ rest. ap (λ (o : Option ℕ). checked o (first_duration paper_day ds) rest) (sym e)

  -- no window is: the durations tell
  pub fault_duration : (r : Maybe ℕ) → none ≡ first_window paper_day ws → fault_of r ≡ first_duration paper_day ds → FirstFault ws ds r
  unfolding checked fault_of
  fault_duration (Some i) e f = λ rest. rw (← e, ← f) refl
  fault_duration None e f =
      (record { windows = windows_right ws e; durations = durations_right ds f }, λ rest. rw (← e, ← f) refl)

  -- the windows are looked through, and the durations where no window is at fault
  pub fault_first :
      (o r : Maybe ℕ)
      → fault_of o ≡ first_window paper_day ws
      → MatchOption o (fault_of r ≡ first_duration paper_day ds) (λ i. r ≡ Some i)
      → FirstFault ws ds r
  unfolding fault_of
  fault_first (Some i) r e f = rw f (fault_window e)
  fault_first None r e f = fault_duration r e f
