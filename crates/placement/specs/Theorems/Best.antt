-- Earliest placing is what the request asks for. What is placed is a placement, in every other one no entry starts earlier, and none ends
-- earlier; and it stops exactly where there is no placement, at the first entry up to which there is none. Assumes nothing.
use Rattle.std.specs.Prelude.{ℕ, suc, ◌+◌, ◌-◌, ◌≤◌, ◌<◌, ◌≡◌, length, get_or}
use mathlib.Core.List.{List}
use Rattle.std.proofs.Math.ListN.{take}
use Rattle.placement.specs.Day.{Window}
use Rattle.placement.specs.Placement.{PlacementFrom, Placement, end_from, end_of, NoneEarlier, NoPlacement}
use Rattle.placement.specs.Placing.{Placed, placed, stuck}

-- ---- from minute t on

-- ys, with its end, is a placement from t on, and in no placement from t on does an entry start earlier
pub record BestFrom (ws : List Window) (t : ℕ) (ds ys : List ℕ) (end : ℕ) : Type 0 where
  pub placement : PlacementFrom ws t ds ys
  pub ends : end ≡ end_from t ds ys
  pub first : (u : ℕ) (zs : List ℕ) → t ≤ u → PlacementFrom ws u ds zs → NoneEarlier ys zs

-- the first i entries have a placement from t on, and the first i + 1 have none
pub record StopsFrom (ws : List Window) (t : ℕ) (ds : List ℕ) (i : ℕ) : Type 0 where
  pub within : i < length ds
  pub before : (ys : List ℕ) × PlacementFrom ws t (take i ds) ys
  pub never : (u : ℕ) (zs : List ℕ) → t ≤ u → PlacementFrom ws u (take (suc i) ds) zs → ⊥

abbrev pub RightFrom : List Window → ℕ → List ℕ → Placed → Type 0
RightFrom ws t ds (placed ys end) = BestFrom ws t ds ys end
RightFrom ws t ds (stuck i) = StopsFrom ws t ds i

-- what is written: a placement, earlier than every other
pub record Best (ws : List Window) (ds ys : List ℕ) (end : ℕ) : Type 0 where
  pub placement : Placement ws ds ys
  pub first : (zs : List ℕ) → Placement ws ds zs → NoneEarlier ys zs
  pub ends : end ≡ end_of ds ys
  pub last : 0 < length ds → end ≡ get_or ys (length ds - 1) 0 + get_or ds (length ds - 1) 0
  pub soonest : (zs : List ℕ) → Placement ws ds zs → end ≤ end_of ds zs

-- "19, no placement exists, place the first entry up to which the list has none"
pub record FirstWithout (ws : List Window) (ds : List ℕ) (i : ℕ) : Type 0 where
  pub within : i < length ds
  pub before : (ys : List ℕ) × Placement ws (take i ds) ys
  pub up_to : NoPlacement ws (take (suc i) ds)
  pub whole : NoPlacement ws ds
