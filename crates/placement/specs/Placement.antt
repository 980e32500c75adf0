-- What a placement of a list of entries is (document 02, request 8), whoever made it; ds are the minutes of the entries, ys their
-- starts. Assumes nothing.
use Rattle.std.specs.Prelude.{ℕ, ◌+◌, ◌≤◌, List, [], ◌∷◌}
use Rattle.placement.specs.Day.{Window}

-- "each entry wholly inside one window"; "Ending at the shutting minute is inside."
pub data Inside (from to : ℕ) : List Window → Type 0 where
  here : {w : Window} {ws : List Window} → w.opening ≤ from → to ≤ w.shutting → Inside from to (w ∷ ws)
  later : {w : Window} {ws : List Window} → Inside from to ws → Inside from to (w ∷ ws)

-- "It places the list in order": an entry starts at minute t or later and lies inside one window, and the others are placed from
-- its end on, "starting no earlier than the one before ends"
pub data PlacementFrom (ws : List Window) : ℕ → List ℕ → List ℕ → Type 0 where
  nothing : {t : ℕ} → PlacementFrom ws t [] []
  entry : {t d y : ℕ} {ds ys : List ℕ} → t ≤ y → Inside y (y + d) ws → PlacementFrom ws (y + d) ds ys → PlacementFrom ws t (d ∷ ds) (y ∷ ys)

abbrev pub Placement : List Window → List ℕ → List ℕ → Type 0
Placement ws ds ys = PlacementFrom ws 0 ds ys

-- the minute at which the last entry ends; t if there is none: "An empty list is placed with end minute 0."
unfoldable pub end_from : ℕ → List ℕ → List ℕ → ℕ
end_from t [] ys = t
end_from t (d ∷ ds) [] = t
end_from t (d ∷ ds) (y ∷ ys) = end_from (y + d) ds ys

abbrev pub end_of : List ℕ → List ℕ → ℕ
end_of ds ys = end_from 0 ds ys

-- "no entry starts earlier", entry by entry: that of zs starts no earlier than that of ys
pub data NoneEarlier : List ℕ → List ℕ → Type 0 where
  none_left : NoneEarlier [] []
  both_left : {y z : ℕ} {ys zs : List ℕ} → y ≤ z → NoneEarlier ys zs → NoneEarlier (y ∷ ys) (z ∷ zs)

-- no list of starts places the entries
abbrev pub NoPlacement : List Window → List ℕ → Type 0
NoPlacement ws ds = (ys : List ℕ) → Placement ws ds ys → ⊥
