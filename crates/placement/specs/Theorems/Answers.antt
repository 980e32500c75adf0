-- The answer is right, whatever bytes are lent: what is written is the placement in which no entry starts later than in any other, with its
-- end minute; 18, 19 and 13 as the request names them, each exactly there. Assumes nothing.
use Prim.Native.Nat.{ℕ, ◌*◌, ◌≤◌, ◌<◌}
use Rattle.std.specs.Prelude.{◌≡◌, List, get_or, drop, Result, Ok, Err}
use Rattle.std.proofs.Math.ListN.{length}
use Rattle.placement.specs.declared.Placed.{Placed as PlacedAnswer}
use Rattle.placement.specs.Day.{DayLimits, minute_at, pieces, windows_of, durations_of}
use Rattle.placement.specs.Theorems.Best.{Best, FirstWithout}
use Rattle.placement.specs.Theorems.Checks.{WindowOk, WindowsOk, DurationOk, DurationsOk}
use Rattle.model.specs.declared.Refusal.{Refusal}

-- ---- what an answer says of the lent windows and durations, and of an output that held `old` and holds `new`

-- no window and no duration is at fault
pub record DayOk (L : DayLimits) (ws ds : List ℕ) : Type 0 where
  pub windows : WindowsOk L ws
  pub durations : DurationsOk L ds

module _ (L : DayLimits) (ws ds old new : List ℕ) where
  -- "written is each entry's start, and the answer is the end minute"
  pub record Timetable (end n : ℕ) : Type 0 where
    pub day : DayOk L ws ds
    pub starts : List ℕ
    pub best : Best (windows_of ws) (durations_of ds) starts end
    -- start i stands at byte 4 i, and all of them fit
    pub written : (i : ℕ) → i < length starts → minute_at new (4 * i) ≡ get_or starts i 0
    pub size : n ≡ 4 * length starts
    pub fits : n ≤ length old
    pub behind : drop n new ≡ drop n old

  -- why the call turns back, with number and place
  pub data Turned : ℕ → ℕ → Type 0 where
    -- "18, the first window out of order or range or beyond the 64th"
    window : {i : ℕ} → i < pieces 8 (length ws) → (WindowOk L ws i → ⊥) → ((j : ℕ) → j < i → WindowOk L ws j) → Turned 18 i
    -- "then the first duration out of range"
    duration : {i : ℕ} → WindowsOk L ws → i < pieces 4 (length ds) → (DurationOk L ds i → ⊥) → ((j : ℕ) → j < i → DurationOk L ds j) → Turned 18 i
    -- "19, no placement exists, place the first entry up to which the list has none"
    without : {i : ℕ} → DayOk L ws ds → FirstWithout (windows_of ws) (durations_of ds) i → Turned 19 i
    -- "13 for a short output last"
    short : {ys : List ℕ} {end : ℕ} → DayOk L ws ds → Best (windows_of ws) (durations_of ds) ys end → length old < 4 * length ys → Turned 13 0

  abbrev pub PlaceRight : Result PlacedAnswer Refusal → Type 0
  PlaceRight (Ok p) = Timetable p.end p.length
  PlaceRight (Err r) = Turned r.number r.place × (new ≡ old)
