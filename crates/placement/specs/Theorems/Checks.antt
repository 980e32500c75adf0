-- Refusal 18: a window or duration is at fault exactly where it is not as the request says, and bytes without a fault hold rising windows
-- and durations within the range. Assumes nothing.
use Prim.Native.Nat.{ℕ, suc, ◌+◌, ◌*◌, ◌≤◌, ◌<◌}
use Rattle.std.specs.Prelude.{◌≡◌, List, length}
use Rattle.model.specs.Theorems.Reading.WellFormed.{All}
use Rattle.placement.specs.Day.{DayLimits, window_at, duration_at, pieces, windows_of}
use Rattle.placement.specs.Theorems.Earliest.{Rising}

-- ---- windows
-- window i is as the request says: not beyond the 64th, not cut short, "an opening and a later shutting minute from 0 to 1,000,000", and it
-- opens no earlier than the one in front of it shuts
pub record WindowOk (L : DayLimits) (ws : List ℕ) (i : ℕ) : Type 0 where
  pub number : i < L.windows
  pub whole : 8 * i + 8 ≤ length ws
  pub later : (window_at ws i).opening < (window_at ws i).shutting
  pub in_range : (window_at ws i).shutting ≤ L.last_minute
  pub behind : (j : ℕ) → i ≡ suc j → (window_at ws j).shutting ≤ (window_at ws i).opening

-- all of them are, and rise
pub record WindowsOk (L : DayLimits) (ws : List ℕ) : Type 0 where
  pub each : (i : ℕ) → i < pieces 8 (length ws) → WindowOk L ws i
  pub exact : length ws ≡ 8 * pieces 8 (length ws)
  pub rising : Rising 0 (windows_of ws)

-- ---- durations
-- the minutes of entry i are as the request says: not cut short, "1 to 1,440"
pub record DurationOk (L : DayLimits) (ds : List ℕ) (i : ℕ) : Type 0 where
  pub whole : 4 * i + 4 ≤ length ds
  pub positive : 0 < duration_at ds i
  pub in_range : duration_at ds i ≤ L.longest

pub record DurationsOk (L : DayLimits) (ds : List ℕ) : Type 0 where
  pub each : (i : ℕ) → i < pieces 4 (length ds) → DurationOk L ds i
  pub exact : length ds ≡ 4 * pieces 4 (length ds)

-- every entry takes some time
abbrev pub Positive : List ℕ → Type 0
Positive ds = All (λ (d : ℕ). 0 < d) ds
