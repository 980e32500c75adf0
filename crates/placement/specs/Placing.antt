-- Earliest placing, and the call: each entry in its turn starts as early as can be (document 02, request 8). That this is the placement
-- that the request asks for is proved in `Theorems`. Assumes nothing.
use Rattle.std.specs.Prelude.{ℕ, suc, ◌+◌, true, false, cond, List, [], ◌∷◌, ◌++◌, leb, length, Result, Ok, Err}
use Rattle.std.proofs.Math.Option.{Option, none, some}
use Rattle.integer.specs.BigEndian.{bytes}
use Rattle.model.specs.Calls.{Output, writes, turns, fitted, output_after}
use Rattle.placement.specs.declared.Placed.{Placed as PlacedAnswer}
use Rattle.placement.specs.Day.{Window, DayLimits, first_window, first_duration, windows_of, durations_of}
use Rattle.model.specs.declared.Refusal.{Refusal}

-- the earliest start in a window, from minute t on
unfoldable pub start_in : ℕ → Window → ℕ
start_in t w = cond (leb t w.opening) w.opening t

-- the earliest start of d minutes, from minute t on: in the first window that has room for them
unfoldable pub earliest : List Window → ℕ → ℕ → Option ℕ
earliest [] t d = none
earliest (w ∷ ws) t d = elim (leb (start_in t w + d) w.shutting) [ true ↦ some (start_in t w) | false ↦ earliest ws t d ]

-- the starts and the end minute, or the number of the entry for which there is no room
pub data Placed : Type 0 where
  placed : List ℕ → ℕ → Placed
  stuck : ℕ → Placed

-- an entry that starts at y, and what becomes of those behind it
unfoldable pub behind_entry : ℕ → Placed → Placed
behind_entry y (placed ys end) = placed (y ∷ ys) end
behind_entry y (stuck i) = stuck (suc i)

unfoldable pub place_next : ℕ → (ℕ → Placed) → Option ℕ → Placed
place_next d rest none = stuck 0
place_next d rest (some y) = behind_entry y (rest (y + d))

-- each entry as early as can be, from minute t on
unfoldable pub place_from : List Window → ℕ → List ℕ → Placed
place_from ws t [] = placed [] t
place_from ws t (d ∷ ds) = place_next d (λ end. place_from ws end ds) (earliest ws t d)

-- ---- the call

-- "written is each entry's start"; "Every minute is 4 bytes, big-endian"
unfoldable pub start_bytes : List ℕ → List ℕ
start_bytes [] = []
start_bytes (y ∷ ys) = bytes 4 y ++ start_bytes ys

-- "19, no placement exists, place the first entry up to which the list has none"
unfoldable pub starts_of : Placed → Output
starts_of (placed ys end) = writes (start_bytes ys)
starts_of (stuck i) = turns (record { number = 19; place = i })

-- "the answer is the end minute"; a refusal has none
unfoldable pub end_minute : Placed → ℕ
end_minute (placed ys end) = end
end_minute (stuck i) = 0

-- "18, the first window .., then the first duration .., place its number in its own list"; "18 comes first"
unfoldable pub checked : Option ℕ → Option ℕ → Output → Output
checked (some i) o rest = turns (record { number = 18; place = i })
checked none (some i) rest = turns (record { number = 18; place = i })
checked none none rest = rest

-- each entry of the day as early as can be
unfoldable pub day_placed : List ℕ → List ℕ → Placed
day_placed ws ds = place_from (windows_of ws) 0 (durations_of ds)

-- what is written into an output of so many bytes, or why the call turns back: "13 for a short output last"
unfoldable pub placing : DayLimits → List ℕ → List ℕ → ℕ → Output
placing L ws ds size = fitted size (checked (first_window L ws) (first_duration L ds) (starts_of (day_placed ws ds)))

-- "the answer is the end minute", and it "carries the length written from the start"
unfoldable pub answered : Placed → Output → Result PlacedAnswer Refusal
answered r (writes bs) = Ok (record { end = end_minute r; length = length bs })
answered r (turns q) = Err q

unfoldable pub place_answer : DayLimits → List ℕ → List ℕ → List ℕ → Result PlacedAnswer Refusal
place_answer L ws ds out = answered (day_placed ws ds) (placing L ws ds (length out))

unfoldable pub place_out : DayLimits → List ℕ → List ℕ → List ℕ → List ℕ
place_out L ws ds out = output_after (placing L ws ds (length out)) out
