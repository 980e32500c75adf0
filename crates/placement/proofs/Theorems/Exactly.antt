-- Which answer is given, exactly: 18 if a window or duration is at fault; otherwise 19 if the list has no placement; otherwise 13 if the
-- output is shorter than the durations, which are as long as the starts; otherwise the timetable. Assumes nothing.
use Rattle.std.specs.Prelude.{ℕ, ◌*◌, ◌^◌, ◌≤◌, ◌<◌, ◌≡◌, refl, ◌↔◌, List, length, Result, Ok, Err}
use Rattle.std.proofs.Common.{arith, ap, subst, ◌∙◌}
use Rattle.model.specs.declared.Refusal.{Refusal}
use Rattle.model.proofs.Theorems.Laws.Searching.{length_tabulate}
use Rattle.placement.specs.declared.Placed.{Placed}
use Rattle.placement.specs.Day.{DayLimits, paper_day, duration_at, pieces, windows_of, durations_of}
use Rattle.placement.specs.Placement.{Placement, NoPlacement}
use Rattle.placement.specs.Placing.{place_answer, place_out}
use Rattle.placement.specs.Theorems.Best.{Best}
use Rattle.placement.proofs.Theorems.Best.{same_count}
use Rattle.placement.proofs.Theorems.Checks.{durations_positive}
use Rattle.placement.proofs.Theorems.Starts.{windows_shut, few_entries}
use Rattle.placement.specs.Theorems.Answers.{DayOk, Timetable, Turned, window, duration, without, short, PlaceRight}
use Rattle.placement.proofs.Theorems.Answers.{answer_right}

-- the starts are as long as the durations
pub starts_size : {L : DayLimits} {ws ds : List ℕ} → DayOk L ws ds → {ys : List ℕ} {end : ℕ} → Best (windows_of ws) (durations_of ds) ys end → 4 * length ys ≡ length ds
unfolding durations_of
starts_size {ds} day {ys} b =
    omega (arith, same_count (durations_of ds) ys b.placement, length_tabulate (duration_at ds) 0 (pieces 4 (length ds)), day.durations.exact)

module _ (L : DayLimits) (ws ds old : List ℕ) (four_bytes : L.last_minute < 256 ^ 4) where
  abbrev Answer : Result Placed Refusal → Type 0
  Answer r = place_answer L ws ds old ≡ r

  abbrev Some : Type 0
  Some = (ys : List ℕ) × Placement (windows_of ws) (durations_of ds) ys

  abbrev Back : ℕ → ℕ → Type 0
  Back n p = Turned L ws ds old (place_out L ws ds old) n p

  -- what each number says
  says_18 : {n p : ℕ} → Back n p → n ≡ 18 → DayOk L ws ds → ⊥
  says_18 (window h wrong before) e day = wrong (day.windows.each _ h)
  says_18 (duration windows h wrong before) e day = wrong (day.durations.each _ h)
  says_18 (without ok first) e day = omega arith
  says_18 (short ok b less) e day = omega arith

  says_19 : {n p : ℕ} → Back n p → n ≡ 19 → DayOk L ws ds × NoPlacement (windows_of ws) (durations_of ds)
  says_19 (window h wrong before) e = absurd (omega arith)
  says_19 (duration windows h wrong before) e = absurd (omega arith)
  says_19 (without ok first) e = (ok, first.whole)
  says_19 (short ok b less) e = absurd (omega arith)

  says_13 : {n p : ℕ} → Back n p → n ≡ 13 → DayOk L ws ds × Some × (length old < length ds)
  says_13 (window h wrong before) e = absurd (omega arith)
  says_13 (duration windows h wrong before) e = absurd (omega arith)
  says_13 (without ok first) e = absurd (omega arith)
  says_13 (short {ys} ok b less) e = (ok, (ys, b.placement), omega (arith, starts_size ok b))

  -- what is so makes the number
  makes_18 : {n p : ℕ} → Back n p → (DayOk L ws ds → ⊥) → n ≡ 18
  makes_18 (window h wrong before) bad = refl
  makes_18 (duration windows h wrong before) bad = refl
  makes_18 (without ok first) bad = absurd (bad ok)
  makes_18 (short ok b less) bad = absurd (bad ok)

  makes_19 : {n p : ℕ} → Back n p → DayOk L ws ds → NoPlacement (windows_of ws) (durations_of ds) → n ≡ 19
  makes_19 (window h wrong before) day empty = absurd (wrong (day.windows.each _ h))
  makes_19 (duration windows h wrong before) day empty = absurd (wrong (day.durations.each _ h))
  makes_19 (without ok first) day empty = refl
  makes_19 (short {ys} ok b less) day empty = absurd (empty ys b.placement)

  makes_13 : {n p : ℕ} → Back n p → DayOk L ws ds → Some → (n ≡ 13) × (p ≡ 0) × (length old < length ds)
  makes_13 (window h wrong before) day some = absurd (wrong (day.windows.each _ h))
  makes_13 (duration windows h wrong before) day some = absurd (wrong (day.durations.each _ h))
  makes_13 (without ok first) day some = absurd (first.whole some.0 some.1)
  makes_13 (short {ys} ok b less) day some = (refl, refl, omega (arith, starts_size ok b))

  refused_as : (q : Refusal) {n : ℕ} → q.number ≡ n → Answer (Err q) → Answer (Err (record { number = n; place = q.place }))
  refused_as q e same = same ∙ ap (λ (k : ℕ). Err (record { number = k; place = q.place })) e

  -- by the answer, which is right
  by_answer :
      {X : Type 0}
      → ((end n : ℕ) → Answer (Ok (record { end = end; length = n })) → Timetable L ws ds old (place_out L ws ds old) end n → X)
      → ((q : Refusal) → Answer (Err q) → Back q.number q.place → X)
      → X
  by_answer {X} accepted refused = go (place_answer L ws ds old) refl (answer_right L ws ds old four_bytes)
    where
      go : (r : Result Placed Refusal) → Answer r → PlaceRight L ws ds old (place_out L ws ds old) r → X
      go (Ok p) e right = accepted p.end p.length e right
      go (Err q) e right = refused q e right.0

  right_at : (r : Result Placed Refusal) → Answer r → PlaceRight L ws ds old (place_out L ws ds old) r
  right_at r e = subst (PlaceRight L ws ds old (place_out L ws ds old)) e (answer_right L ws ds old four_bytes)

  -- "18, the first window out of order or range or beyond the 64th, then the first duration out of range"
  pub eighteen_exactly : ((i : ℕ) × Answer (Err (record { number = 18; place = i }))) ↔ (DayOk L ws ds → ⊥)
  eighteen_exactly = (
    λ a. says_18 (right_at _ a.1).0 refl,
    λ bad. by_answer (λ end n e table. absurd (bad table.day)) (λ q e back. (q.place, refused_as q (makes_18 back bad) e)),
  )

  -- "19, no placement exists"
  pub nineteen_exactly : ((i : ℕ) × Answer (Err (record { number = 19; place = i }))) ↔ (DayOk L ws ds × NoPlacement (windows_of ws) (durations_of ds))
  nineteen_exactly = (
    λ a. says_19 (right_at _ a.1).0 refl,
    λ h. by_answer (λ end n e table. absurd (h.1 table.starts table.best.placement)) (λ q e back. (q.place, refused_as q (makes_19 back h.0 h.1) e)),
  )

  -- "13 for a short output last"
  pub thirteen_exactly : Answer (Err (record { number = 13; place = 0 })) ↔ (DayOk L ws ds × Some × (length old < length ds))
  thirteen_exactly = (
    λ a. says_13 (right_at _ a).0 refl,
    λ h.
        by_answer
        (λ end n e table. absurd (omega (arith, table.fits, table.size, starts_size table.day table.best, h.2)))
        (λ q e back.
        let m = makes_13 back h.0 h.1 in
        refused_as q m.0 e ∙ ap (λ (p : ℕ). Err (record { number = 13; place = p })) m.1),
  )

  -- the list is placed, and its starts are as long as the durations
  pub placed_exactly : ((end : ℕ) × Answer (Ok (record { end = end; length = length ds }))) ↔ (DayOk L ws ds × Some × (length ds ≤ length old))
  placed_exactly = (
    λ a. let table = right_at _ a.1 in (table.day, (table.starts, table.best.placement), table.fits),
    λ h.
        by_answer
        (λ end n e table. (end, e ∙ ap (λ (n : ℕ). Ok (record { end = end; length = n })) (table.size ∙ starts_size table.day table.best)))
        (λ q e back. absurd (let m = makes_13 back h.0 h.1 in omega (arith, m.2, h.2))),
  )

-- no list of more entries than 1,000,000 has a placement
pub too_many : (ws ds : List ℕ) → DayOk paper_day ws ds → 1_000_000 < pieces 4 (length ds) → NoPlacement (windows_of ws) (durations_of ds)
unfolding paper_day durations_of
too_many ws ds day many =
    few_entries 1_000_000 (windows_of ws) (durations_of ds) (windows_shut day.windows) (durations_positive day.durations)
    (omega (arith, length_tabulate (duration_at ds) 0 (pieces 4 (length ds))))
