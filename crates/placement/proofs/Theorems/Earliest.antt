-- The earliest start of one entry, from minute t on, in rising windows: it lies inside one window, and no start inside one is earlier.
-- Assumes nothing.
use Rattle.std.specs.Prelude.{ℕ, ◌+◌, ◌≤◌, ◌<◌, ◌≡◌, Bool, true, false, List, [], ◌∷◌}
use native.Mathlib.Omega.{arith}
use Rattle.std.proofs.Math.Option.{Option, none, some}
use lib.Dec.{T, leb, leb→le}
use Rattle.model.proofs.Theorems.Laws.Booleans.{cond_cases}
use Rattle.placement.specs.Day.{Window}
use Rattle.placement.specs.Placement.{Inside, here, later}
use Rattle.placement.specs.Placing.{start_in, earliest}
use Rattle.placement.specs.Theorems.Earliest.{Earliest, NoStart, Rising}

not_le : (a b : ℕ) → (T (leb a b) → ⊥) → b < a
not_le a b f = lib.Dec.nleb→lt a b (lib.Dec.not_T (leb a b) f)

-- ---- the start in one window: the larger of t and the opening
module _ (t : ℕ) (w : Window) where
  pub start_least : (t ≤ start_in t w) × (w.opening ≤ start_in t w)
  unfolding start_in
  start_least =
      cond_cases (λ (y : ℕ). (t ≤ y) × (w.opening ≤ y)) (leb t w.opening) w.opening t
      (λ h. (leb→le t w.opening h, omega arith))
      (λ h. let k = not_le t w.opening h in (omega arith, omega arith))

  pub start_most : {z : ℕ} → t ≤ z → w.opening ≤ z → start_in t w ≤ z
  unfolding start_in
  start_most {z} h k = cond_cases (λ (y : ℕ). y ≤ z) (leb t w.opening) w.opening t (λ c. k) (λ c. h)

  pub start_open : w.opening ≤ t → start_in t w ≡ t
  start_open h = let low = start_least.0 in let high = start_most {z = t} (omega arith) h in omega arith

-- ---- in all windows
-- what lies inside windows that open at m or later starts at m or later
inside_after : (m : ℕ) (ws : List Window) {from to : ℕ} → Rising m ws → Inside from to ws → m ≤ from
inside_after m (w ∷ ws) up (here h k) = omega (arith, up.0)
inside_after m (w ∷ ws) up (later at) = let h = inside_after w.shutting ws up.2 at in omega (arith, up.0, up.1)
inside_after m [] up p = elim p [ ]

outside : {from to : ℕ} → Inside from to [] → ⊥
outside = elim [ ]

-- the earliest start is found, or there is none
pub earliest_cases :
    (P : Option ℕ → Type 0) (m : ℕ) (ws : List Window) (t d : ℕ)
    → Rising m ws
    → ((y : ℕ) → Earliest ws t d y → P (some y))
    → (NoStart ws t d → P none)
    → P (earliest ws t d)
unfolding earliest
earliest_cases P m [] t d up found missing = missing (λ z h i. outside i)
earliest_cases P m (w ∷ ws) t d up found missing =
    go (leb (start_in t w + d) w.shutting) (leb→le (start_in t w + d) w.shutting) (not_le (start_in t w + d) w.shutting)
    (earliest_cases P w.shutting ws t d up.2)
  where
    behind : {z : ℕ} → w.shutting < start_in t w + d → t ≤ z → Inside z (z + d) (w ∷ ws) → Inside z (z + d) ws
    behind {z} full h (here from to) = absurd (let k = start_most t w h from in omega arith)
    behind {z} full h (later at) = at

    least_here : start_in t w + d ≤ w.shutting → (z : ℕ) → t ≤ z → Inside z (z + d) (w ∷ ws) → start_in t w ≤ z
    least_here room z h (here from to) = start_most t w h from
    least_here room z h (later at) = let k = inside_after w.shutting ws up.2 at in omega arith

    go :
        (b : Bool)
        → (T b → start_in t w + d ≤ w.shutting)
        → ((T b → ⊥) → w.shutting < start_in t w + d)
        → (((y : ℕ) → Earliest ws t d y → P (some y)) → (NoStart ws t d → P none) → P (earliest ws t d))
        → P (elim b [ true ↦ some (start_in t w) | false ↦ earliest ws t d ])
    go true fits full rest =
        found (start_in t w)
        (record { late = (start_least t w).0; inside = here (start_least t w).1 (fits tt); least = least_here (fits tt) })
    go false fits full rest =
        let over = full (λ x. x) in
        rest
        (λ y e. found y (record { late = e.late; inside = later e.inside; least = λ z h i. e.least z h (behind over h i) }))
        (λ none-there. missing (λ z h i. none-there z h (behind over h i)))
