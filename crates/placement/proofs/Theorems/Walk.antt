-- Earliest placing in one pass over windows and entries together. A walk stands at minute `from` in a window that shuts at `shut`: in each
-- turn it places an entry there, or leaves the window for the next, and it never goes back. It makes earliest placing, and the windows and
-- entries that are left are one fewer after each turn. Assumes nothing.
use Rattle.std.specs.Prelude.{ℕ, ◌+◌, ◌≤◌, ◌<◌, ◌≡◌, Bool, leb, length}
use Rattle.std.proofs.Common.{arith, ◌∙◌, le-leb}
use Rattle.std.proofs.Math.Path.{refl, sym, ap, ap₂}
use Rattle.std.proofs.Math.Bool.{true, false}
use mathlib.Core.List.{List, [], ◌∷◌, ◌++◌}
use Rattle.std.proofs.Math.Option.{Option, none, some}
use Rattle.std.proofs.lemmas.Bool.{lt-leb}
use Rattle.placement.specs.Day.{Window}
use Rattle.placement.specs.Placing.{start_in, earliest, Placed, placed, stuck, behind_entry, place_next, place_from}
use Rattle.placement.specs.Theorems.Earliest.{Rising}
use Rattle.placement.proofs.Theorems.Earliest.{start_least, start_most, start_open}
use Rattle.placement.specs.Theorems.Checks.{Positive}
use Rattle.placement.specs.Theorems.Walk.{Standing, Walk, begin, behind_all, current, leave, place}

-- "one pass over windows and entries together": each turn leaves a window or an entry behind, so there are no more turns than windows and
-- entries
pub walk_turns :
    {ws : List Window} {ds : List ℕ} {n : ℕ} {ys : List ℕ} {from shut : ℕ} {left : List Window} {todo : List ℕ}
    → Walk ws ds n ys from shut left todo
    → n + length left + length todo ≡ length ws + length ds
walk_turns begin = omega arith
walk_turns (place w h) = omega (arith, walk_turns w)
walk_turns (leave w h) = omega (arith, walk_turns w)

-- ---- what placing does not see
-- a start that is found is no earlier than t
earliest_late : (P : Option ℕ → Type 0) (ws : List Window) (t d : ℕ) → ((y : ℕ) → t ≤ y → P (some y)) → P none → P (earliest ws t d)
unfolding earliest
earliest_late P [] t d found missing = missing
earliest_late P (w ∷ ws) t d found missing = go (leb (start_in t w + d) w.shutting) (earliest_late P ws t d found missing)
  where
    go : (b : Bool) → P (earliest ws t d) → P (elim b [ true ↦ some (start_in t w) | false ↦ earliest ws t d ])
    go true rest = found (start_in t w) (start_least t w).0
    go false rest = rest

-- windows in which every entry has the same earliest start, from t on
module _ (ws vs : List Window) where
  same_place :
      (t : ℕ) (ds : List ℕ)
      → Positive ds
      → ((u d : ℕ) → t ≤ u → 0 < d → earliest ws u d ≡ earliest vs u d)
      → place_from ws t ds ≡ place_from vs t ds
  unfolding place_from place_next
  same_place t [] some_time same = refl
  same_place t (d ∷ ds) some_time same =
      ap (place_next d (λ end. place_from ws end ds)) (same t d (omega arith) some_time.0)
      ∙ earliest_late (λ (o : Option ℕ). place_next d (λ end. place_from ws end ds) o ≡ place_next d (λ end. place_from vs end ds) o) vs t d
      (λ y late. ap (behind_entry y) (same_place (y + d) ds some_time.1 (λ u e h k. same u e (omega arith) k))) refl

-- a window is open at u, whenever it opened
same_open : (o p shut : ℕ) (left : List Window) (u d : ℕ) → o ≤ u → p ≤ u → earliest (current o shut ∷ left) u d ≡ earliest (current p shut ∷ left) u d
unfolding earliest
same_open o p shut left u d h k =
    ap (λ (y : ℕ). elim (leb (y + d) shut) [ true ↦ some y | false ↦ earliest left u d ]) (start_open u (current o shut) h ∙ sym (start_open u (current p shut) k))

-- a window has no room
no_room : (w : Window) (left : List Window) (u d : ℕ) → w.shutting < u + d → earliest (w ∷ left) u d ≡ earliest left u d
unfolding earliest
no_room w left u d h =
    ap (λ (b : Bool). elim b [ true ↦ some (start_in u w) | false ↦ earliest left u d ])
    (lt-leb (start_in u w + d) w.shutting (let low = (start_least u w).0 in omega arith))

-- later windows do not tell t from u, both before they open
same_start : (m : ℕ) (ws : List Window) (t u d : ℕ) → Rising m ws → t ≤ u → ((x : ℕ) → t ≤ x → m ≤ x → u ≤ x) → earliest ws t d ≡ earliest ws u d
unfolding earliest
same_start m [] t u d up h below = refl
same_start m (w ∷ ws) t u d up h below =
    ap₂ (λ (y : ℕ) (o : Option ℕ). elim (leb (y + d) w.shutting) [ true ↦ some y | false ↦ o ]) start
    (same_start w.shutting ws t u d up.2 h (λ x a b. below x a (omega (arith, up.0, up.1))))
  where
    start : start_in t w ≡ start_in u w
    start =
        let low : start_in t w ≤ start_in u w = start_most t w (let a = (start_least u w).0 in omega arith) (start_least u w).1 in
        let high : start_in u w ≤ start_in t w =
        start_most u w (below (start_in t w) (start_least t w).0 (let a = (start_least t w).1 in omega (arith, up.0))) (start_least t w).1 in
        omega arith

-- ---- one turn
module _ (from shut : ℕ) (left : List Window) (d : ℕ) (todo : List ℕ) (some_time : Positive (d ∷ todo)) where
  -- the entry has room in the window
  turn_place :
      from + d ≤ shut
      → place_from (current from shut ∷ left) from (d ∷ todo) ≡ behind_entry from (place_from (current (from + d) shut ∷ left) (from + d) todo)
  unfolding place_from place_next earliest
  turn_place fits =
      ap (place_next d (λ end. place_from (current from shut ∷ left) end todo)) here
      ∙ ap (behind_entry from) (same_place (current from shut ∷ left) (current (from + d) shut ∷ left) (from + d) todo some_time.1
      (λ u e h k. same_open from (from + d) shut left u e (omega arith) h))
    where
      here : earliest (current from shut ∷ left) from d ≡ some from
      here =
          ap (λ (y : ℕ). elim (leb (y + d) shut) [ true ↦ some y | false ↦ earliest left from d ]) (start_open from (current from shut) (omega arith))
          ∙ ap (λ (b : Bool). elim b [ true ↦ some from | false ↦ earliest left from d ]) (le-leb (from + d) shut fits)

  -- it has none, and the next window takes its place
  module _ (w : Window) (up : Rising shut (w ∷ left)) (full : shut < from + d) where
    abbrev start : ℕ
    start = start_in from w

    leave_first : earliest (current from shut ∷ w ∷ left) from d ≡ earliest (current start w.shutting ∷ left) start d
    unfolding earliest
    leave_first =
        no_room (current from shut) (w ∷ left) from d full
        ∙ ap₂ (λ (y : ℕ) (o : Option ℕ). elim (leb (y + d) w.shutting) [ true ↦ some y | false ↦ o ])
        (sym (start_open start (current start w.shutting) (omega arith)))
        (same_start w.shutting left from start d up.2 (start_least from w).0 (λ x a b. start_most from w a (omega (arith, up.1))))

    leave_later : (u e : ℕ) → start + d ≤ u → earliest (current from shut ∷ w ∷ left) u e ≡ earliest (current start w.shutting ∷ left) u e
    leave_later u e h =
        let low = start_least from w in
        no_room (current from shut) (w ∷ left) u e (omega arith)
        ∙ same_open w.opening start w.shutting left u e (omega (arith, low.1)) (omega arith)

    turn_leave : place_from (current from shut ∷ w ∷ left) from (d ∷ todo) ≡ place_from (current start w.shutting ∷ left) start (d ∷ todo)
    unfolding place_from place_next
    turn_leave =
        ap (place_next d (λ end. place_from (current from shut ∷ w ∷ left) end todo)) leave_first
        ∙ earliest_late
        (λ (o : Option ℕ). place_next d (λ end. place_from (current from shut ∷ w ∷ left) end todo) o ≡ place_next d (λ end. place_from (current start w.shutting ∷ left) end todo) o)
        (current start w.shutting ∷ left) start d
        (λ y late. ap (behind_entry y) (same_place (current from shut ∷ w ∷ left) (current start w.shutting ∷ left) (y + d) todo some_time.1 (λ u e h k. leave_later u e (omega arith))))
        refl

behind_one : (ys : List ℕ) (y : ℕ) (r : Placed) → behind_all ys (behind_entry y r) ≡ behind_all (ys ++ (y ∷ [])) r
unfolding behind_all
behind_one [] y r = refl
behind_one (x ∷ ys) y r = ap (behind_entry x) (behind_one ys y r)

behind_placed : (ys : List ℕ) (end : ℕ) → behind_all ys (placed [] end) ≡ placed ys end
unfolding behind_all behind_entry
behind_placed [] end = refl
behind_placed (y ∷ ys) end = ap (behind_entry y) (behind_placed ys end)

behind_stuck : (ys : List ℕ) (i : ℕ) → behind_all ys (stuck i) ≡ stuck (length ys + i)
unfolding behind_all behind_entry
behind_stuck [] i = ap stuck (omega arith)
behind_stuck (y ∷ ys) i = ap (behind_entry y) (behind_stuck ys i) ∙ ap stuck (omega arith)

module _ {ws : List Window} {ds : List ℕ} (up : Rising 0 ws) (some_time : Positive ds) where
  pub walk_standing :
      {n : ℕ} {ys : List ℕ} {from shut : ℕ} {left : List Window} {todo : List ℕ}
      → Walk ws ds n ys from shut left todo
      → Standing ws ds ys from shut left todo
  unfolding behind_all
  walk_standing begin =
      record {
        is = sym (same_place (current 0 0 ∷ ws) ws 0 ds some_time (λ u d h k. no_room (current 0 0) ws u d (omega arith)));
        up = up;
        some_time = some_time;
      }
  walk_standing (place {from} {shut} {d} {ys} {todo} {left} w fits) =
      let s = walk_standing w in
      record {
        is = s.is ∙ ap (behind_all ys) (turn_place from shut left d todo s.some_time fits) ∙ behind_one ys from (place_from (current (from + d) shut ∷ left) (from + d) todo);
        up = s.up;
        some_time = s.some_time.1;
      }
  walk_standing (leave {from} {shut} {d} {ys} {todo} {w} {left} v full) =
      let s = walk_standing v in
      record {
        is = s.is ∙ ap (behind_all ys) (turn_leave from shut left d todo s.some_time w s.up full);
        up = s.up.2;
        some_time = s.some_time;
      }

  -- no entry is left
  pub walk_placed :
      {n : ℕ} {ys : List ℕ} {from shut : ℕ} {left : List Window}
      → Walk ws ds n ys from shut left []
      → place_from ws 0 ds ≡ placed ys from
  unfolding place_from
  walk_placed {ys} {from} w = (walk_standing w).is ∙ behind_placed ys from

  -- an entry has no room, and no window is left
  pub walk_stuck :
      {n : ℕ} {ys : List ℕ} {from shut d : ℕ} {todo : List ℕ}
      → Walk ws ds n ys from shut [] (d ∷ todo)
      → shut < from + d
      → place_from ws 0 ds ≡ stuck (length ys)
  unfolding place_from place_next earliest
  walk_stuck {ys} {from} {shut} {d} {todo} w full =
      (walk_standing w).is
      ∙ ap (λ (o : Option ℕ). behind_all ys (place_next d (λ end. place_from (current from shut ∷ []) end todo) o)) (no_room (current from shut) [] from d full)
      ∙ behind_stuck ys 0
      ∙ ap stuck (omega arith)
