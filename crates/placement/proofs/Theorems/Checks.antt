-- Refusal 18: a window or duration is at fault exactly where it is not as the request says, and bytes without a fault hold rising windows
-- and durations within the range. Assumes nothing.
use Prim.Native.Nat.{ℕ, zero, suc, ◌+◌, ◌-◌, ◌*◌, ◌≤◌, ◌<◌}
use Rattle.std.proofs.Common.{le-div_iff_mul-le, mul-zero, eq-eqb}
use Rattle.std.proofs.Math.Nat.{mul_comm, mul-suc}
use native.Mathlib.Omega.{arith}
use Rattle.std.specs.Prelude.{◌≡◌, Bool, ◌||◌, List, T, leb, ltb, eqb, length}
use Rattle.std.proofs.Math.Path.{refl, subst}
use Rattle.std.proofs.Math.Option.{Option, none, some}
use Rattle.std.proofs.Math.Dec.{not_T, leb→le, ltb→lt, eqb→eq, nleb→lt, nltb→le}
use Rattle.model.specs.Lists.{first_from, tabulate}
use Rattle.model.proofs.Theorems.Laws.Booleans.{T-cases, T-stable, T-equal, or_left, or_right, or_cases, true_t}
use Rattle.model.proofs.Theorems.Laws.Searching.{first_from_cases}
use Rattle.placement.specs.Day.{DayLimits, window_at, duration_at, pieces, overlaps, wrong_window, wrong_duration, first_window, first_duration, windows_of, durations_of}
use Rattle.placement.specs.Theorems.Earliest.{Rising}
use Rattle.placement.specs.Theorems.Checks.{DurationOk, DurationsOk, Positive, WindowOk, WindowsOk}

-- ---- pieces of a list of bytes

module _ (size n : ℕ) (some_size : 0 < size) where
  pub piece_begins : (i : ℕ) → i < pieces size n → size * i < n
  unfolding pieces
  piece_begins i h =
      let k : suc i * size ≤ n + (size - 1) = (le-div_iff_mul-le {k = size} {x = suc i} {y = n + (size - 1)} some_size).0 h in
      omega (arith, k, mul_comm (suc i) size, mul-suc size i)

  pub begins_piece : (i : ℕ) → size * i < n → i < pieces size n
  unfolding pieces
  begins_piece i h = (le-div_iff_mul-le {k = size} {x = suc i} {y = n + (size - 1)} some_size).1 (omega (arith, mul_comm (suc i) size, mul-suc size i))

  pub pieces_end : (i : ℕ) → n ≤ size * i → pieces size n ≤ i
  pieces_end i h =
      T-cases (ltb i (pieces size n)) (λ t. absurd (let k = piece_begins i (ltb→lt i (pieces size n) t) in omega arith))
      (λ f. nltb→le i (pieces size n) (not_T (ltb i (pieces size n)) f))

  pub pieces_most : size * pieces size n ≤ n + (size - 1)
  unfolding pieces
  pieces_most =
      let k : pieces size n * size ≤ n + (size - 1) = (le-div_iff_mul-le {k = size} {x = pieces size n} {y = n + (size - 1)} some_size).0 (omega arith) in
      omega (arith, k, mul_comm (pieces size n) size)

  -- pieces that are all whole make up the list
  pub pieces_whole : ((i : ℕ) → i < pieces size n → size * i + size ≤ n) → n ≡ size * pieces size n
  pieces_whole whole = go (pieces size n) refl
    where
      most : (q : ℕ) → pieces size n ≡ q → n ≤ size * q
      most q e =
          T-cases (ltb (size * q) n) (λ h. let k = begins_piece q (ltb→lt (size * q) n h) in omega arith)
          (λ h. nltb→le (size * q) n (not_T (ltb (size * q) n) h))

      go : (q : ℕ) → pieces size n ≡ q → n ≡ size * pieces size n
      go zero e = rw e (omega (arith, most zero e, mul-zero size))
      go (suc q) e = rw e (omega (arith, most (suc q) e, whole q (omega arith), mul-suc size q))

-- ---- a test that tells exactly what is not as it should be
-- of a thing that is as it should be where it passes the test `wrong`, and only there
module _ (Ok : Type 0) (wrong : Bool) (right : (T wrong → ⊥) → Ok) (ok : Ok → T wrong → ⊥) where
  -- the result of another test is that of this one
  pub same_test : (b : Bool) → (T b → Ok → ⊥) → ((T b → ⊥) → Ok) → b ≡ wrong
  same_test b bad good =
      T-equal b wrong (λ t. T-stable wrong (λ f. bad t (right f))) (λ t. T-stable b (λ f. ok (good f) t))

-- the first of n that is not, or all of them are
first_cases :
    (Ok : ℕ → Type 0) (wrong : ℕ → Bool)
    → ((i : ℕ) → (T (wrong i) → ⊥) → Ok i)
    → ((i : ℕ) → Ok i → T (wrong i) → ⊥)
    → (n : ℕ) (P : Option ℕ → Type 0)
    → ((i : ℕ) → i < n → (Ok i → ⊥) → ((j : ℕ) → j < i → Ok j) → P (some i))
    → (((i : ℕ) → i < n → Ok i) → P none)
    → P (first_from wrong 0 n)
first_cases Ok wrong right ok n P found all =
    first_from_cases wrong P 0 n
    (λ i low high t before. found i (omega arith) (λ k. ok i k t) (λ j h. right j (before j (omega arith) h)))
    (λ never. all (λ i h. right i (never i (omega arith) (omega arith))))

-- neither of two tests
no_left : (a b : Bool) → (T (a || b) → ⊥) → T a → ⊥
no_left a b f t = f (or_left a b t)

no_right : (a b : Bool) → (T (a || b) → ⊥) → T b → ⊥
no_right a b f t = f (or_right a b t)

module _ (L : DayLimits) (ws : List ℕ) where
  apart : (i j : ℕ) → i ≡ suc j → (T (overlaps ws i) → ⊥) → (window_at ws j).shutting ≤ (window_at ws i).opening
  unfolding overlaps
  apart zero j e free = absurd (omega arith)
  apart (suc i) j e free =
      let same : i ≡ j = omega arith in
      subst (λ (k : ℕ). (window_at ws k).shutting ≤ (window_at ws (suc i)).opening) same
      (nltb→le (window_at ws (suc i)).opening (window_at ws i).shutting (not_T (overlaps ws (suc i)) free))

  no_overlap : (i : ℕ) → ((j : ℕ) → i ≡ suc j → (window_at ws j).shutting ≤ (window_at ws i).opening) → T (overlaps ws i) → ⊥
  unfolding overlaps
  no_overlap zero behind t = t
  no_overlap (suc i) behind t =
      let k = ltb→lt (window_at ws (suc i)).opening (window_at ws i).shutting t in let h = behind i refl in omega arith

  module _ (i : ℕ) where
    beyond : Bool
    beyond = leb L.windows i

    cut : Bool
    cut = ltb (length ws) (8 * i + 8)

    unordered : Bool
    unordered = leb (window_at ws i).shutting (window_at ws i).opening

    late : Bool
    late = ltb L.last_minute (window_at ws i).shutting

    pub right_window : (T (wrong_window L ws i) → ⊥) → WindowOk L ws i
    unfolding wrong_window beyond cut unordered late
    right_window right =
        let r1 = no_left (beyond || cut || unordered || late) (overlaps ws i) right in
        let r2 = no_left (beyond || cut || unordered) late r1 in
        let r3 = no_left (beyond || cut) unordered r2 in
        record {
          number = nleb→lt L.windows i (not_T beyond (no_left beyond cut r3));
          whole = nltb→le (length ws) (8 * i + 8) (not_T cut (no_right beyond cut r3));
          later = nleb→lt (window_at ws i).shutting (window_at ws i).opening (not_T unordered (no_right (beyond || cut) unordered r2));
          in_range = nltb→le L.last_minute (window_at ws i).shutting (not_T late (no_right (beyond || cut || unordered) late r1));
          behind = λ j e. apart i j e (no_right (beyond || cut || unordered || late) (overlaps ws i) right);
        }

    pub wrong_window_lem : WindowOk L ws i → T (wrong_window L ws i) → ⊥
    unfolding wrong_window beyond cut unordered late
    wrong_window_lem ok t =
        or_cases (beyond || cut || unordered || late) (overlaps ws i) t
        (λ t1. or_cases (beyond || cut || unordered) late t1
        (λ t2. or_cases (beyond || cut) unordered t2
        (λ t3. or_cases beyond cut t3 (λ h. let k = leb→le L.windows i h in omega (arith, ok.number)) (λ h. let k = ltb→lt (length ws) (8 * i + 8) h in omega (arith, ok.whole)))
        (λ h. let k = leb→le (window_at ws i).shutting (window_at ws i).opening h in omega (arith, ok.later)))
        (λ h. let k = ltb→lt L.last_minute (window_at ws i).shutting h in omega (arith, ok.in_range)))
        (λ h. no_overlap i ok.behind h)

rising_from :
    (ws : List ℕ) (m i n : ℕ)
    → m ≤ (window_at ws i).opening
    → ((j : ℕ) → i ≤ j → j < i + n → (window_at ws j).opening < (window_at ws j).shutting)
    → ((j : ℕ) → i ≤ j → suc j < i + n → (window_at ws j).shutting ≤ (window_at ws (suc j)).opening)
    → Rising m (tabulate (window_at ws) i n)
unfolding tabulate
rising_from ws m i zero h later behind = tt
rising_from ws m i (suc zero) h later behind = (h, later i (omega arith) (omega arith), tt)
rising_from ws m i (suc (suc n)) h later behind = (
  h,
  later i (omega arith) (omega arith),
  rising_from ws (window_at ws i).shutting (suc i) (suc n) (behind i (omega arith) (omega arith))
      (λ j a b. later j (omega arith) (omega arith)) (λ j a b. behind j (omega arith) (omega arith)),
)

windows_ok : (L : DayLimits) (ws : List ℕ) → ((i : ℕ) → i < pieces 8 (length ws) → WindowOk L ws i) → WindowsOk L ws
unfolding windows_of
windows_ok L ws each =
    record {
      each = each;
      exact = pieces_whole 8 (length ws) (omega arith) (λ i h. (each i h).whole);
      rising =
          rising_from ws 0 0 (pieces 8 (length ws)) (omega arith) (λ j a b. (each j (omega arith)).later)
          (λ j a b. (each (suc j) (omega arith)).behind j refl);
    }

-- the first window at fault, or windows as they should be
pub windows_cases :
    (L : DayLimits) (ws : List ℕ) (P : Option ℕ → Type 0)
    → ((i : ℕ) → i < pieces 8 (length ws) → (WindowOk L ws i → ⊥) → ((j : ℕ) → j < i → WindowOk L ws j) → P (some i))
    → (WindowsOk L ws → P none)
    → P (first_window L ws)
unfolding first_window
windows_cases L ws P found right =
    first_cases (WindowOk L ws) (wrong_window L ws) (right_window L ws) (wrong_window_lem L ws) (pieces 8 (length ws)) P found (λ each. right (windows_ok L ws each))

module _ (L : DayLimits) (ds : List ℕ) (i : ℕ) where
  short : Bool
  short = ltb (length ds) (4 * i + 4)

  none_at_all : Bool
  none_at_all = eqb (duration_at ds i) 0

  too_long : Bool
  too_long = ltb L.longest (duration_at ds i)

  pub right_duration : (T (wrong_duration L ds i) → ⊥) → DurationOk L ds i
  unfolding wrong_duration short none_at_all too_long
  right_duration right =
      let r1 = no_left (short || none_at_all) too_long right in
      record {
        whole = nltb→le (length ds) (4 * i + 4) (not_T short (no_left short none_at_all r1));
        positive = some_minutes (duration_at ds i) (λ e. no_right short none_at_all r1 (true_t (eq-eqb (duration_at ds i) 0 e)));
        in_range = nltb→le L.longest (duration_at ds i) (not_T too_long (no_right (short || none_at_all) too_long right));
      }
    where
      some_minutes : (n : ℕ) → (n ≡ 0 → ⊥) → 0 < n
      some_minutes zero f = absurd (f refl)
      some_minutes (suc n) f = omega arith

  pub wrong_duration_holds : DurationOk L ds i → T (wrong_duration L ds i) → ⊥
  unfolding wrong_duration short none_at_all too_long
  wrong_duration_holds ok t =
      or_cases (short || none_at_all) too_long t
      (λ t1. or_cases short none_at_all t1 (λ h. let k = ltb→lt (length ds) (4 * i + 4) h in omega (arith, ok.whole))
      (λ h. let k = eqb→eq (duration_at ds i) 0 h in omega (arith, ok.positive)))
      (λ h. let k = ltb→lt L.longest (duration_at ds i) h in omega (arith, ok.in_range))

-- the first duration at fault, or durations as they should be
pub durations_cases :
    (L : DayLimits) (ds : List ℕ) (P : Option ℕ → Type 0)
    → ((i : ℕ) → i < pieces 4 (length ds) → (DurationOk L ds i → ⊥) → ((j : ℕ) → j < i → DurationOk L ds j) → P (some i))
    → (DurationsOk L ds → P none)
    → P (first_duration L ds)
unfolding first_duration
durations_cases L ds P found right =
    first_cases (DurationOk L ds) (wrong_duration L ds) (right_duration L ds) (wrong_duration_holds L ds) (pieces 4 (length ds)) P found
    (λ each. right (record { each = each; exact = pieces_whole 4 (length ds) (omega arith) (λ i h. (each i h).whole) }))

pub durations_positive : {L : DayLimits} {ds : List ℕ} → DurationsOk L ds → Positive (durations_of ds)
unfolding durations_of tabulate
durations_positive {ds = ds} ok = go 0 (pieces 4 (length ds)) (omega arith)
  where
    go : (i n : ℕ) → i + n ≤ pieces 4 (length ds) → Positive (tabulate (duration_at ds) i n)
    go i zero h = tt
    go i (suc n) h = ((ok.each i (omega arith)).positive, go (suc i) n (omega arith))
