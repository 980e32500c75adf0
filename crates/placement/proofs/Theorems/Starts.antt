-- The starts as bytes: start i stands at byte 4 i, and every start and the end lie within the day, so that no more entries than its last
-- minute have a placement. Assumes nothing.
use Rattle.std.specs.Prelude.{ℕ, zero, suc, ◌+◌, ◌*◌, ◌^◌, ◌≤◌, ◌<◌, ◌≡◌, refl, List, [], ◌∷◌, ◌++◌, length, get_or, take, drop}
use Rattle.std.proofs.Common.{arith, sym, ap, ◌∙◌, append_assoc, append-nil, length-append, take_at}
use Rattle.std.proofs.Math.Seq.{drop-append-add}
use Rattle.integer.specs.BigEndian.{bytes, unsigned}
use Rattle.integer.proofs.BigEndian.{length_bytes, unsigned_bytes}
use Rattle.model.specs.Lists.{tabulate}
use Rattle.placement.specs.Day.{Window, DayLimits, minute_at, window_at, pieces, windows_of}
use Rattle.placement.specs.Placement.{Inside, here, later, PlacementFrom, nothing, entry, end_from, NoPlacement}
use Rattle.placement.specs.Placing.{start_bytes}
use Rattle.placement.specs.Theorems.Checks.{WindowsOk, Positive}
use Rattle.placement.specs.Theorems.Starts.{ShutBy}

pub length_starts : (ys : List ℕ) → length (start_bytes ys) ≡ 4 * length ys
unfolding start_bytes
length_starts [] = refl
length_starts (y ∷ ys) = length-append (bytes 4 y) (start_bytes ys) ∙ omega (arith, length_bytes 4 y, length_starts ys)

pub starts_one : (ys : List ℕ) (y : ℕ) → start_bytes ys ++ bytes 4 y ≡ start_bytes (ys ++ (y ∷ []))
unfolding start_bytes
starts_one [] y = sym (append-nil (bytes 4 y))
starts_one (x ∷ ys) y = append_assoc (bytes 4 x) (start_bytes ys) (bytes 4 y) ∙ ap (λ (r : List ℕ). bytes 4 x ++ r) (starts_one ys y)

-- start i, whatever stands behind the starts
pub start_at : (ys more : List ℕ) (i : ℕ) → i < length ys → get_or ys i 0 < 256 ^ 4 → minute_at (start_bytes ys ++ more) (4 * i) ≡ get_or ys i 0
unfolding start_bytes minute_at
start_at [] more i h k = absurd (omega arith)
start_at (y ∷ ys) more zero h k =
    ap (λ (bs : List ℕ). unsigned (take 4 bs)) (append_assoc (bytes 4 y) (start_bytes ys) more)
    ∙ ap unsigned (take_at (bytes 4 y) (start_bytes ys ++ more) 4 (length_bytes 4 y))
    ∙ unsigned_bytes 4 y k
start_at (y ∷ ys) more (suc i) h k =
    let e : 4 * suc i ≡ length (bytes 4 y) + 4 * i = omega (arith, length_bytes 4 y) in
    ap (λ (bs : List ℕ). unsigned (take 4 (drop (4 * suc i) bs))) (append_assoc (bytes 4 y) (start_bytes ys) more)
    ∙ ap (λ (n : ℕ). unsigned (take 4 (drop n (bytes 4 y ++ (start_bytes ys ++ more))))) e
    ∙ ap (λ (bs : List ℕ). unsigned (take 4 bs)) (drop-append-add (bytes 4 y) (start_bytes ys ++ more) (4 * i))
    ∙ start_at ys more i (omega arith) k

shut_by : (m : ℕ) (f : ℕ → Window) (i n : ℕ) → ((j : ℕ) → i ≤ j → j < i + n → (f j).shutting ≤ m) → ShutBy m (tabulate f i n)
unfolding tabulate
shut_by m f i zero h = tt
shut_by m f i (suc n) h = (h i (omega arith) (omega arith), shut_by m f (suc i) n (λ j a b. h j (omega arith) (omega arith)))

pub windows_shut : {L : DayLimits} {ws : List ℕ} → WindowsOk L ws → ShutBy L.last_minute (windows_of ws)
unfolding windows_of
windows_shut {L} {ws} ok = shut_by L.last_minute (window_at ws) 0 (pieces 8 (length ws)) (λ j a b. (ok.each j (omega arith)).in_range)

inside_by : (m : ℕ) (ws : List Window) {from to : ℕ} → ShutBy m ws → Inside from to ws → to ≤ m
inside_by m (w ∷ ws) by (here h k) = omega (arith, by.0)
inside_by m (w ∷ ws) by (later i) = inside_by m ws by.1 i
inside_by m [] by p = elim p [ ]

pub starts_by : (m : ℕ) (ws : List Window) (t : ℕ) (ds ys : List ℕ) → ShutBy m ws → PlacementFrom ws t ds ys → (i : ℕ) → i < length ys → get_or ys i 0 ≤ m
starts_by m ws t [] [] by nothing i h = absurd (omega arith)
starts_by m ws t (d ∷ ds) (y ∷ ys) by (entry k at p) zero h = let last = inside_by m ws by at in omega arith
starts_by m ws t (d ∷ ds) (y ∷ ys) by (entry k at p) (suc i) h = starts_by m ws (y + d) ds ys by p i (omega arith)
starts_by m ws t [] (y ∷ ys) by p i h = elim p [ ]
starts_by m ws t (d ∷ ds) [] by p i h = elim p [ ]

pub end_by : (m : ℕ) (ws : List Window) (t : ℕ) (ds ys : List ℕ) → ShutBy m ws → t ≤ m → PlacementFrom ws t ds ys → end_from t ds ys ≤ m
unfolding end_from
end_by m ws t [] [] by h nothing = h
end_by m ws t (d ∷ ds) (y ∷ ys) by h (entry k at p) = end_by m ws (y + d) ds ys by (inside_by m ws by at) p
end_by m ws t [] (y ∷ ys) by h p = elim p [ ]
end_by m ws t (d ∷ ds) [] by h p = elim p [ ]

-- every entry takes a minute at least
minutes_least : (ws : List Window) (t : ℕ) (ds ys : List ℕ) → Positive ds → PlacementFrom ws t ds ys → t + length ds ≤ end_from t ds ys
unfolding end_from
minutes_least ws t [] [] some_time nothing = omega arith
minutes_least ws t (d ∷ ds) (y ∷ ys) some_time (entry k at p) =
    let rest = minutes_least ws (y + d) ds ys some_time.1 p in let one = some_time.0 in omega arith
minutes_least ws t [] (y ∷ ys) some_time p = elim p [ ]
minutes_least ws t (d ∷ ds) [] some_time p = elim p [ ]

-- a list of more entries than the last minute has no placement
pub few_entries : (m : ℕ) (ws : List Window) (ds : List ℕ) → ShutBy m ws → Positive ds → m < length ds → NoPlacement ws ds
few_entries m ws ds by some_time many ys p =
    let least = minutes_least ws 0 ds ys some_time p in let most = end_by m ws 0 ds ys by (omega arith) p in omega arith
