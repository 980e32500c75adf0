-- The answer is right, whatever bytes are lent: what is written is the placement in which no entry starts later than in any other, with its
-- end minute; 18, 19 and 13 as the request names them, each exactly there. Assumes nothing.
use Prim.Native.Nat.{ℕ, ◌^◌, ◌≤◌, ◌<◌}
use Rattle.std.proofs.Common.{arith, sym, ap, subst, ltb→lt}
use Rattle.std.specs.Prelude.{◌≡◌, Bool, true, false, List, T, ltb, get_or, drop}
use Rattle.std.proofs.Math.Path.{refl}
use Rattle.std.proofs.Math.Option.{Option, none}
use Rattle.std.proofs.Math.Dec.{nltb→le, not_T}
use Rattle.std.proofs.Math.ListN.{length}
use Rattle.std.proofs.Math.Seq.{drop-append_seam}
use Rattle.model.specs.Memory.{overwrite}
use Rattle.model.specs.Calls.{Output, writes, turns, fitted, output_after}
use Rattle.placement.specs.Day.{DayLimits, first_duration, windows_of, durations_of}
use Rattle.placement.specs.Placing.{Placed, placed, stuck, start_bytes, starts_of, end_minute, checked, day_placed, placing, answered, place_answer, place_out}
use Rattle.placement.specs.Theorems.Best.{Best, RightFrom}
use Rattle.placement.proofs.Theorems.Best.{best, place_right, stops_first}
use Rattle.placement.proofs.Theorems.Checks.{windows_cases, durations_cases}
use Rattle.placement.proofs.Theorems.Starts.{length_starts, start_at, windows_shut, starts_by}
use Rattle.placement.specs.Theorems.Answers.{DayOk, PlaceRight, duration, short, window, without}

-- ---- every answer is right
module _ (L : DayLimits) (ws ds old : List ℕ) (four_bytes : L.last_minute < 256 ^ 4) where
  -- of what the call writes, or why it turns back
  abbrev OutputRight : Output → Type 0
  OutputRight o = PlaceRight L ws ds old (output_after o old) (answered (day_placed ws ds) o)

  -- every start is a minute of the day
  small : DayOk L ws ds → (ys : List ℕ) (end : ℕ) → Best (windows_of ws) (durations_of ds) ys end → (i : ℕ) → i < length ys → get_or ys i 0 < 256 ^ 4
  small day ys end b i h =
      let most = starts_by L.last_minute (windows_of ws) 0 (durations_of ds) ys (windows_shut day.windows) b.placement i h in
      omega arith

  starts_right :
      DayOk L ws ds
      → (ys : List ℕ) (end : ℕ)
      → end ≡ end_minute (day_placed ws ds)
      → Best (windows_of ws) (durations_of ds) ys end
      → OutputRight (fitted (length old) (writes (start_bytes ys)))
  unfolding fitted output_after answered overwrite
  starts_right day ys end same b =
      go (ltb (length old) n) (ltb→lt (length old) n) (λ f. nltb→le (length old) n (not_T (ltb (length old) n) f))
    where
      n : ℕ
      n = length (start_bytes ys)

      go :
          (t : Bool)
          → (T t → length old < n)
          → ((T t → ⊥) → n ≤ length old)
          → OutputRight (elim t [ true ↦ turns (record { number = 13; place = 0 }) | false ↦ writes (start_bytes ys) ])
      go true less more = (short day b (omega (arith, less tt, length_starts ys)), refl)
      go false less more =
          record {
            day = day;
            starts = ys;
            best = subst (Best (windows_of ws) (durations_of ds) ys) same b;
            written = λ i h. start_at ys (drop n old) i h (small day ys end b i h);
            size = length_starts ys;
            fits = more (λ x. x);
            behind = drop-append_seam (start_bytes ys) (drop n old);
          }

  day_right : DayOk L ws ds → OutputRight (fitted (length old) (starts_of (day_placed ws ds)))
  unfolding day_placed starts_of end_minute fitted output_after answered
  day_right day = go (day_placed ws ds) refl (place_right 0 (windows_of ws) day.windows.rising 0 (durations_of ds))
    where
      go : (r : Placed) → day_placed ws ds ≡ r → RightFrom (windows_of ws) 0 (durations_of ds) r → OutputRight (fitted (length old) (starts_of (day_placed ws ds)))
      go (placed ys end) e right =
          rw (ap starts_of e) (starts_right day ys end (sym (ap end_minute e)) (best (windows_of ws) (durations_of ds) ys end right))
      go (stuck i) e right = rw (ap starts_of e) (without day (stops_first (windows_of ws) (durations_of ds) i right), refl)

  pub answer_right : PlaceRight L ws ds old (place_out L ws ds old) (place_answer L ws ds old)
  unfolding place_answer place_out placing checked fitted output_after answered
  answer_right =
      windows_cases L ws (λ (o : Option ℕ). OutputRight (fitted (length old) (checked o (first_duration L ds) (starts_of (day_placed ws ds)))))
      (λ i h wrong before. (window h wrong before, refl))
      (λ windows. durations_cases L ds (λ (o : Option ℕ). OutputRight (fitted (length old) (checked none o (starts_of (day_placed ws ds)))))
      (λ i h wrong before. (duration windows h wrong before, refl))
      (λ durations. day_right (record { windows = windows; durations = durations })))
