-- Earliest placing is what the request asks for. What is placed is a placement, in every other one no entry starts earlier, and none ends
-- earlier; and it stops exactly where there is no placement, at the first entry up to which there is none. Assumes nothing.
use Rattle.std.specs.Prelude.{ℕ, zero, suc, ◌+◌, ◌-◌, ◌≤◌, ◌<◌, ◌≡◌, refl, ◌↔◌, length, get_or}
use Rattle.std.proofs.Common.{arith, ap, subst, ◌∙◌}
use mathlib.Core.List.{List, [], ◌∷◌}
use Rattle.std.proofs.Math.Option.{Option}
use Rattle.std.proofs.Math.ListN.{take}
use Rattle.placement.specs.Day.{Window}
use Rattle.placement.specs.Placement.{PlacementFrom, nothing, entry, end_from, NoneEarlier, none_left, both_left, NoPlacement}
use Rattle.placement.specs.Placing.{Placed, placed, stuck, behind_entry, place_next, place_from}
use Rattle.placement.specs.Theorems.Earliest.{Rising, Earliest, NoStart}
use Rattle.placement.proofs.Theorems.Earliest.{earliest_cases}
use Rattle.placement.specs.Theorems.Best.{Best, BestFrom, FirstWithout, RightFrom, StopsFrom}

-- an entry at its earliest start, before others that are right from its end on
module _ (ws : List Window) (t d y : ℕ) (ds : List ℕ) (early : Earliest ws t d y) where
  behind_right : (r : Placed) → RightFrom ws (y + d) ds r → RightFrom ws t (d ∷ ds) (behind_entry y r)
  unfolding behind_entry end_from
  behind_right (placed ys end) right =
      record {
        placement = entry early.late early.inside right.placement;
        ends = right.ends;
        first = λ u zs h p. none_earlier u zs h p;
      }
    where
      none_earlier : (u : ℕ) (zs : List ℕ) → t ≤ u → PlacementFrom ws u (d ∷ ds) zs → NoneEarlier (y ∷ ys) zs
      none_earlier u (z ∷ zs) h (entry k i p) =
          let low : y ≤ z = early.least z (omega arith) i in
          both_left low (right.first (z + d) zs (omega arith) p)
      none_earlier u [] h p = elim p [ ]
  behind_right (stuck i) right =
      record {
        within = omega (arith, right.within);
        before = (y ∷ right.before.0, entry early.late early.inside right.before.1);
        never = λ u zs h p. none_fits u zs h p;
      }
    where
      none_fits : (u : ℕ) (zs : List ℕ) → t ≤ u → PlacementFrom ws u (d ∷ take (suc i) ds) zs → ⊥
      none_fits u (z ∷ zs) h (entry k at p) =
          let low : y ≤ z = early.least z (omega arith) at in
          right.never (z + d) zs (omega arith) p
      none_fits u [] h p = elim p [ ]

module _ (m : ℕ) (ws : List Window) (up : Rising m ws) where
  pub place_right : (t : ℕ) (ds : List ℕ) → RightFrom ws t ds (place_from ws t ds)
  unfolding place_from place_next end_from
  place_right t [] = record { placement = nothing; ends = refl; first = λ u zs h p. empty zs p }
    where
      empty : {u : ℕ} (zs : List ℕ) → PlacementFrom ws u [] zs → NoneEarlier [] zs
      empty [] nothing = none_left
      empty (_ ∷ _) p = elim p [ ]
  place_right t (d ∷ ds) =
      earliest_cases (λ (o : Option ℕ). RightFrom ws t (d ∷ ds) (place_next d (λ end. place_from ws end ds) o)) m ws t d up
      (λ y early. behind_right ws t d y ds early (place_from ws (y + d) ds) (place_right (y + d) ds))
      (λ full.
      record {
        within = omega arith;
        before = ([], nothing);
        never = λ u zs h p. none_first full u zs h p;
      })
    where
      none_first : NoStart ws t d → (u : ℕ) (zs : List ℕ) → t ≤ u → PlacementFrom ws u (d ∷ []) zs → ⊥
      none_first full u (z ∷ zs) h (entry k at p) = full z (omega arith) at
      none_first full u [] h p = elim p [ ]

-- ---- the list
-- as many starts as entries
pub same_count : {ws : List Window} {t : ℕ} (ds ys : List ℕ) → PlacementFrom ws t ds ys → length ys ≡ length ds
same_count [] [] nothing = refl
same_count {t = t} (d ∷ ds) (y ∷ ys) (entry h i p) = ap suc (same_count {t = y + d} ds ys p)
same_count [] (y ∷ ys) p = elim p [ ]
same_count (d ∷ ds) [] p = elim p [ ]

no_starts : {ws : List Window} {t d : ℕ} {ds : List ℕ} → PlacementFrom ws t (d ∷ ds) [] → ⊥
no_starts = elim [ ]

not_longer : {z : ℕ} {zs : List ℕ} → NoneEarlier [] (z ∷ zs) → ⊥
not_longer = elim [ ]

-- where no entry starts earlier, none ends earlier
ends_later : {ws : List Window} (t u : ℕ) (ds ys zs : List ℕ) → t ≤ u → NoneEarlier ys zs → PlacementFrom ws u ds zs → end_from t ds ys ≤ end_from u ds zs
unfolding end_from
ends_later t u [] ys zs h n p = h
ends_later t u (d ∷ ds) [] [] h n p = absurd (no_starts p)
ends_later t u (d ∷ ds) [] (z ∷ zs) h n p = absurd (not_longer n)
ends_later t u (d ∷ ds) (y ∷ ys) (z ∷ zs) h (both_left low n) (entry k i p) = ends_later (y + d) (z + d) ds ys zs (omega arith) n p
ends_later t u (d ∷ ds) (y ∷ ys) [] h n p = elim n [ ]

-- the end minute is the last entry's start and its minutes
last_end :
    {ws : List Window} (y d : ℕ) (ds ys : List ℕ)
    → PlacementFrom ws (y + d) ds ys
    → end_from (y + d) ds ys ≡ get_or (y ∷ ys) (length ds) 0 + get_or (d ∷ ds) (length ds) 0
unfolding end_from
last_end y d [] [] nothing = refl
last_end y d (e ∷ ds) (z ∷ ys) (entry h i p) = last_end z e ds ys p
last_end y d [] (z ∷ ys) p = elim p [ ]
last_end y d (e ∷ ds) [] p = elim p [ ]

list_end :
    {ws : List Window} (t : ℕ) (ds ys : List ℕ)
    → PlacementFrom ws t ds ys
    → 0 < length ds
    → end_from t ds ys ≡ get_or ys (length ds - 1) 0 + get_or ds (length ds - 1) 0
unfolding end_from
list_end t [] ys p some-entry = absurd (omega arith)
list_end t (d ∷ ds) (y ∷ ys) (entry h i p) some-entry =
    let e : suc (length ds) - 1 ≡ length ds = omega arith in rw e (last_end y d ds ys p)
list_end t (d ∷ ds) [] p some-entry = elim p [ ]

pub best : (ws : List Window) (ds ys : List ℕ) (end : ℕ) → BestFrom ws 0 ds ys end → Best ws ds ys end
best ws ds ys end b =
    record {
      placement = b.placement;
      first = λ zs p. b.first 0 zs (omega arith) p;
      ends = b.ends;
      last = λ h. b.ends ∙ list_end 0 ds ys b.placement h;
      soonest = λ zs p. rw b.ends (ends_later 0 0 ds ys zs (omega arith) (b.first 0 zs (omega arith) p) p);
    }

-- a placement of the list is one of its first entries
placement_prefix : {ws : List Window} (t j : ℕ) (ds ys : List ℕ) → PlacementFrom ws t ds ys → PlacementFrom ws t (take j ds) (take j ys)
placement_prefix t zero ds ys p = nothing
placement_prefix t (suc j) [] [] nothing = nothing
placement_prefix t (suc j) (d ∷ ds) (y ∷ ys) (entry h i p) = entry h i (placement_prefix (y + d) j ds ys p)
placement_prefix t (suc j) [] (y ∷ ys) p = elim p [ ]
placement_prefix t (suc j) (d ∷ ds) [] p = elim p [ ]

pub stops_first : (ws : List Window) (ds : List ℕ) (i : ℕ) → StopsFrom ws 0 ds i → FirstWithout ws ds i
stops_first ws ds i s =
    record {
      within = s.within;
      before = s.before;
      up_to = λ ys p. s.never 0 ys (omega arith) p;
      whole = λ ys p. s.never 0 (take (suc i) ys) (omega arith) (placement_prefix 0 (suc i) ds ys p);
    }

-- placing stops exactly where there is no placement
pub stuck_exactly :
    (m : ℕ) (ws : List Window) (ds : List ℕ)
    → Rising m ws
    → ((i : ℕ) × (place_from ws 0 ds ≡ stuck i)) ↔ NoPlacement ws ds
stuck_exactly m ws ds up = (
  λ s. (stops_first ws ds s.0 (subst (RightFrom ws 0 ds) s.1 (place_right m ws up 0 ds))).whole,
  λ without. go without (place_from ws 0 ds) (place_right m ws up 0 ds) refl,
)
  where
    go : NoPlacement ws ds → (r : Placed) → RightFrom ws 0 ds r → place_from ws 0 ds ≡ r → (i : ℕ) × (place_from ws 0 ds ≡ stuck i)
    go without (placed ys end) right same = absurd (without ys right.placement)
    go without (stuck i) right same = (i, same)
