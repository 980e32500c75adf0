-- The walk over the bytes of an accepted day, writing each start as it goes (`Theorems.Walk` has the walk itself). Assumes nothing.
use Rattle.std.specs.Prelude.{ℕ, suc, ◌+◌, ◌-◌, ◌*◌, ◌≤◌, ◌<◌, ◌≡◌, refl, List, [], ◌∷◌, ◌++◌, Result, Ok, Err, cond, leb, max}
use Rattle.std.proofs.lemmas.Bool.Decides.{nat_tests}
use Rattle.std.proofs.Common.{add-one, arith, sym, ◌∙◌, length-append}
use Rattle.std.proofs.Math.Path.{ap}
use Rattle.std.proofs.Math.ListN.{length}
use Rattle.integer.specs.BigEndian.{bytes}
use Rattle.integer.proofs.BigEndian.{length_bytes}
use Rattle.output.specs.Writing.{Written, written_none, written_join, written_same}
use Rattle.model.specs.Lists.{tabulate}
use Rattle.model.proofs.Theorems.Laws.Searching.{length_tabulate}
use Rattle.placement.specs.Day.{Window, paper_day, window_at, duration_at, pieces, windows_of, durations_of}
use Rattle.placement.specs.Placing.{start_in, placed, stuck, start_bytes, day_placed}
use Rattle.placement.proofs.Theorems.Earliest.{start_most}
use Rattle.placement.specs.Theorems.Checks.{WindowOk}
use Rattle.placement.proofs.Theorems.Checks.{durations_positive}
use Rattle.placement.specs.Theorems.Answers.{DayOk}
use Rattle.placement.proofs.Theorems.Starts.{starts_one}
use Rattle.placement.specs.Theorems.Walk.{Walk, begin, place, leave}
use Rattle.placement.proofs.Theorems.Walk.{walk_turns, walk_placed, walk_stuck}

-- the larger of two minutes
pub larger : (a b : ℕ) → max a b ≡ cond (leb a b) b a
larger a b = grind (arith, nat_tests)

-- what is left from number i on, of n
abbrev left_of : {A : Type 0} → (ℕ → A) → ℕ → ℕ → List A
left_of f n i = tabulate f i (n - i)

left_one : {A : Type 0} (f : ℕ → A) (n i : ℕ) → i < n → left_of f n i ≡ f i ∷ left_of f n (i + 1)
unfolding tabulate
left_one f n i h = let e : n - i ≡ suc (n - (i + 1)) = omega arith in rw (e, add-one i, tabulate) refl

left_none : {A : Type 0} (f : ℕ → A) (n i : ℕ) → n ≤ i → left_of f n i ≡ []
unfolding tabulate
left_none f n i h = let e : n - i ≡ 0 = omega arith in rw (e, tabulate) refl

in_day : {ws : List ℕ} {w : ℕ} → WindowOk paper_day ws w → (window_at ws w).shutting ≤ 1_000_000
unfolding paper_day
in_day ok = ok.in_range

-- the walk has left the first w windows and placed the first i entries, whose starts are written
pub record Walking (ws ds old : List ℕ) (from shut w i : ℕ) (new : List ℕ) : Type 0 where
  pub turns : ℕ
  pub starts : List ℕ
  pub walk :
      Walk (windows_of ws) (durations_of ds) turns starts from shut
      (left_of (window_at ws) (pieces 8 (length ws)) w) (left_of (duration_at ds) (pieces 4 (length ds)) i)
  pub windows : w ≤ pieces 8 (length ws)
  pub entries : i ≤ pieces 4 (length ds)
  pub count : length starts ≡ i
  pub written : Written old 0 (start_bytes starts) new (4 * i)
  pub early : (from ≤ 1_000_000) × (shut ≤ 1_000_000)

pub walking_begin : (ws ds old : List ℕ) → Walking ws ds old 0 0 0 0 old
unfolding windows_of durations_of start_bytes
walking_begin ws ds old =
    let m : pieces 8 (length ws) - 0 ≡ pieces 8 (length ws) = omega arith in
    let n : pieces 4 (length ds) - 0 ≡ pieces 4 (length ds) = omega arith in
    record {
      turns = 0;
      starts = [];
      walk = rw (m, n) begin;
      windows = omega arith;
      entries = omega arith;
      count = refl;
      written = written_none old 0;
      early = (omega arith, omega arith);
    }

-- "one pass over windows and entries together": a walk gives these starts and this minute, in no more turns than there are windows and entries
pub record OnePass (ws ds ys : List ℕ) (from : ℕ) : Type 0 where
  pub turns : ℕ
  pub few : turns ≤ pieces 8 (length ws) + pieces 4 (length ds)
  pub shut : ℕ
  pub left : List Window
  pub todo : List ℕ
  pub walk : Walk (windows_of ws) (durations_of ds) turns ys from shut left todo

-- all entries are placed, and their starts stand in an output that is long enough
pub record Wrote (ws ds old new : List ℕ) (end : ℕ) : Type 0 where
  pub starts : List ℕ
  pub is : day_placed ws ds ≡ placed starts end
  pub pass : OnePass ws ds starts end
  pub written : Written old 0 (start_bytes starts) new (length ds)

-- there is no room for entry i
pub record Stopped (ws ds : List ℕ) (i : ℕ) : Type 0 where
  pub is : day_placed ws ds ≡ stuck i
  pub starts : List ℕ
  pub from : ℕ
  pub pass : OnePass ws ds starts from

-- what becomes of the list
abbrev pub Walks : List ℕ → List ℕ → List ℕ → List ℕ → Result ℕ ℕ → Type 0
Walks ws ds old new (Ok end) = Wrote ws ds old new end
Walks ws ds old new (Err i) = Stopped ws ds i

module _ {ws ds : List ℕ} (day : DayOk paper_day ws ds) {old : List ℕ} {from shut w i : ℕ} {new : List ℕ} (s : Walking ws ds old from shut w i new) where
  one_pass : OnePass ws ds s.starts from
  unfolding windows_of durations_of
  one_pass =
      record {
        turns = s.turns;
        few = omega (arith, walk_turns s.walk, length_tabulate (window_at ws) 0 (pieces 8 (length ws)), length_tabulate (duration_at ds) 0 (pieces 4 (length ds)));
        shut = shut;
        left = left_of (window_at ws) (pieces 8 (length ws)) w;
        todo = left_of (duration_at ds) (pieces 4 (length ds)) i;
        walk = s.walk;
      }

  -- the entry that is next
  module _ {d : ℕ} (more : 4 * i < length ds) (minutes : d ≡ duration_at ds i) where
    one_more : i < pieces 4 (length ds)
    one_more = omega (arith, day.durations.exact)

    entry_left : left_of (duration_at ds) (pieces 4 (length ds)) i ≡ d ∷ left_of (duration_at ds) (pieces 4 (length ds)) (i + 1)
    entry_left =
        left_one (duration_at ds) (pieces 4 (length ds)) i one_more
        ∙ ap (λ (x : ℕ). x ∷ left_of (duration_at ds) (pieces 4 (length ds)) (i + 1)) (sym minutes)

    -- it has room, and its start is written
    pub walking_place : {next : List ℕ} {to : ℕ} → from + d ≤ shut → Written new (4 * i) (bytes 4 from) next to → Walking ws ds old (from + d) shut w (i + 1) next
    walking_place {to} fits stored =
        record {
          turns = suc s.turns;
          starts = s.starts ++ (from ∷ []);
          walk = place (rw entry_left at s.walk) fits;
          windows = s.windows;
          entries = omega (arith, one_more);
          count = omega (arith, length-append s.starts (from ∷ []), s.count);
          written =
              let e : to ≡ 4 * (i + 1) = omega (arith, stored.behind, length_bytes 4 from) in
              rw e at (written_same (written_join s.written stored) (starts_one s.starts from));
          early = (omega (arith, s.early.1), s.early.1);
        }

    -- it has none, and there is another window
    pub walking_leave :
        {start end : ℕ}
        → 8 * w < length ws
        → shut < from + d
        → start ≡ start_in from (window_at ws w)
        → end ≡ (window_at ws w).shutting
        → Walking ws ds old start end (w + 1) i new
    walking_leave another full starts_at ends_at =
        let h : w < pieces 8 (length ws) = omega (arith, day.windows.exact) in
        let ok = day.windows.each w h in
        record {
          turns = suc s.turns;
          starts = s.starts;
          walk =
              rw (starts_at, ends_at, entry_left)
              (leave (rw (left_one (window_at ws) (pieces 8 (length ws)) w h, entry_left) at s.walk) full);
          windows = omega arith;
          entries = s.entries;
          count = s.count;
          written = s.written;
          early = rw (starts_at, ends_at)
              (start_most from (window_at ws w) s.early.0 (omega (arith, ok.later, in_day ok)), in_day ok);
        }

    -- it has none, and no window is left
    pub walking_stuck : length ws ≤ 8 * w → shut < from + d → Stopped ws ds i
    unfolding day_placed
    walking_stuck last full =
        let m = pieces 8 (length ws) in
        let all : m ≤ w = omega (arith, day.windows.exact) in
        record {
          is =
              walk_stuck day.windows.rising (durations_positive day.durations) (rw (left_none (window_at ws) m w all, entry_left) at s.walk) full
              ∙ ap stuck s.count;
          starts = s.starts;
          from = from;
          pass = one_pass;
        }

  -- no entry is left
  pub walking_placed : length ds ≤ 4 * i → Wrote ws ds old new from
  unfolding day_placed
  walking_placed h =
      let n = pieces 4 (length ds) in
      let all : n ≤ i = omega (arith, day.durations.exact) in
      record {
        starts = s.starts;
        is = walk_placed day.windows.rising (durations_positive day.durations) (rw (left_none (duration_at ds) n i all) at s.walk);
        pass = one_pass;
        written = let e : 4 * i ≡ length ds = omega (arith, day.durations.exact, s.entries) in rw e at s.written;
      }
