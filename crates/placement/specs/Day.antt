-- A closure day as lent bytes: its windows, the minutes of each entry, and refusal 18 (document 02, request 8). The limits are a
-- parameter, with the request's figures as one value, `paper_day`. Assumes nothing.
use Rattle.std.specs.Prelude.{ℕ, zero, suc, ◌+◌, ◌-◌, ◌*◌, ◌/◌, Bool, false, ◌||◌, List, leb, ltb, eqb, length, take, drop}
use Rattle.std.proofs.Math.Option.{Option}
use Rattle.integer.specs.BigEndian.{unsigned}
use Rattle.model.specs.Lists.{first_from, tabulate}

-- "each an opening and a later shutting minute"
pub record Window : Type 0 where
  pub opening : ℕ
  pub shutting : ℕ

-- how many windows, the last minute, and the longest entry
pub record DayLimits : Type 0 where
  pub windows : ℕ
  pub last_minute : ℕ
  pub longest : ℕ

-- "up to 64 windows"; "from 0 to 1,000,000"; "1 to 1,440 minutes"
unfoldable pub paper_day : DayLimits
paper_day = record { windows = 64; last_minute = 1_000_000; longest = 1_440 }

-- "Every minute is 4 bytes, big-endian"
unfoldable pub minute_at : List ℕ → ℕ → ℕ
minute_at bs at = unsigned (take 4 (drop at bs))

-- window i, an opening and a shutting minute
unfoldable pub window_at : List ℕ → ℕ → Window
window_at ws i = record { opening = minute_at ws (8 * i); shutting = minute_at ws (8 * i + 4) }

-- the minutes of entry i: "the durations, one an entry"
unfoldable pub duration_at : List ℕ → ℕ → ℕ
duration_at ds i = minute_at ds (4 * i)

-- how many windows or durations of so many bytes there are, a last one that is cut short counted
unfoldable pub pieces : ℕ → ℕ → ℕ
pieces size n = (n + (size - 1)) / size

-- "in rising order with no overlap; two may touch": does window i open before the one in front of it shuts
unfoldable pub overlaps : List ℕ → ℕ → Bool
overlaps ws zero = false
overlaps ws (suc i) = ltb (window_at ws (suc i)).opening (window_at ws i).shutting

-- "out of order or range or beyond the 64th"; "a window or duration cut short is out of range". One that opens above the last minute
-- shuts above it, or no later than it opens.
unfoldable pub wrong_window : DayLimits → List ℕ → ℕ → Bool
wrong_window L ws i =
    leb L.windows i
    || ltb (length ws) (8 * i + 8)
    || leb (window_at ws i).shutting (window_at ws i).opening
    || ltb L.last_minute (window_at ws i).shutting
    || overlaps ws i

unfoldable pub wrong_duration : DayLimits → List ℕ → ℕ → Bool
wrong_duration L ds i = ltb (length ds) (4 * i + 4) || eqb (duration_at ds i) 0 || ltb L.longest (duration_at ds i)

-- "the first window out of order or range or beyond the 64th", "the first duration out of range"
unfoldable pub first_window : DayLimits → List ℕ → Option ℕ
first_window L ws = first_from (wrong_window L ws) 0 (pieces 8 (length ws))

unfoldable pub first_duration : DayLimits → List ℕ → Option ℕ
first_duration L ds = first_from (wrong_duration L ds) 0 (pieces 4 (length ds))

-- the windows, and the minutes of each entry, that bytes without such a fault hold
unfoldable pub windows_of : List ℕ → List Window
windows_of ws = tabulate (window_at ws) 0 (pieces 8 (length ws))

unfoldable pub durations_of : List ℕ → List ℕ
durations_of ds = tabulate (duration_at ds) 0 (pieces 4 (length ds))
