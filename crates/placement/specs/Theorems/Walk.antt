-- Earliest placing in one pass over windows and entries together. A walk stands at minute `from` in a window that shuts at `shut`: in each
-- turn it places an entry there, or leaves the window for the next, and it never goes back. It makes earliest placing, and the windows and
-- entries that are left are one fewer after each turn. Assumes nothing.
use Rattle.std.specs.Prelude.{ℕ, suc, ◌+◌, ◌≤◌, ◌<◌, ◌≡◌}
use mathlib.Core.List.{List, [], ◌∷◌, ◌++◌}
use Rattle.placement.specs.Day.{Window}
use Rattle.placement.specs.Placing.{start_in, Placed, behind_entry, place_from}
use Rattle.placement.specs.Theorems.Earliest.{Rising}
use Rattle.placement.specs.Theorems.Checks.{Positive}

-- the window that the walk stands in, from minute `from` on
abbrev pub current : ℕ → ℕ → Window
current from shut = record { opening = from; shutting = shut }

-- n turns of the walk: the starts so far, where it stands, and the windows and entries that are left
pub data Walk (ws : List Window) (ds : List ℕ) : ℕ → List ℕ → ℕ → ℕ → List Window → List ℕ → Type 0 where
  -- before the first window there is no time
  begin : Walk ws ds 0 [] 0 0 ws ds
  -- the entry has room
  place :
      {n from shut d : ℕ} {ys todo : List ℕ} {left : List Window}
      → Walk ws ds n ys from shut left (d ∷ todo)
      → from + d ≤ shut
      → Walk ws ds (suc n) (ys ++ (from ∷ [])) (from + d) shut left todo
  -- it has none, and there is another window
  leave :
      {n from shut d : ℕ} {ys todo : List ℕ} {w : Window} {left : List Window}
      → Walk ws ds n ys from shut (w ∷ left) (d ∷ todo)
      → shut < from + d
      → Walk ws ds (suc n) ys (start_in from w) w.shutting left (d ∷ todo)

-- ---- all turns
-- the starts so far, and what becomes of the other entries
unfoldable pub behind_all : List ℕ → Placed → Placed
behind_all [] r = r
behind_all (y ∷ ys) r = behind_entry y (behind_all ys r)

-- what a walk knows of where it stands
pub record Standing (ws : List Window) (ds ys : List ℕ) (from shut : ℕ) (left : List Window) (todo : List ℕ) : Type 0 where
  pub is : place_from ws 0 ds ≡ behind_all ys (place_from (current from shut ∷ left) from todo)
  pub up : Rising shut left
  pub some_time : Positive todo
