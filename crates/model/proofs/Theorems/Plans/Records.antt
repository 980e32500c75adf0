-- The records of a plan: in rising order, so at most one for a move in a layer, each with a count of 1 or more; layer by layer, with the
-- wants of each (document 01, "Plan"). Assumes nothing.
use Prim.Native.Nat.{ℕ, zero, suc, ◌+◌, ◌-◌, ◌*◌, ◌≤◌, ◌<◌}
use Rattle.std.proofs.Common.{zero-add, sym, ◌∙◌}
use native.Mathlib.Omega.{arith}
use Rattle.std.specs.Prelude.{◌≡◌, refl, List, [], ◌∷◌, ◌++◌, T, eqb}
use Rattle.std.proofs.Math.Path.{ap}
use Rattle.std.proofs.Math.ListN.{length, length-append}
use Rattle.integer.proofs.BigEndian.{length_bytes}
use Rattle.model.specs.Task.{Task}
use Rattle.model.specs.Move.{State}
use Rattle.model.specs.Layer.{layer_at}
use Rattle.model.specs.Plan.{Wants, no_wants, want_block, Descent, descend, Record, layer_records, records_from, records, wants_below, wants_at}
use Rattle.model.specs.Calls.{record_bytes}
use Rattle.model.specs.Theorems.Reading.WellFormed.{All}
use Rattle.model.proofs.Theorems.Laws.Searching.{All-map}
use Rattle.model.proofs.Theorems.Laws.Listed.{All-append}
use Rattle.model.proofs.Theorems.Plans.Descending.{elim_cases}
use Rattle.model.specs.Theorems.Plans.Records.{Before, Bounded, Entry, RisingRecords, descent_at}

rising_append :
    (rs qs : List Record)
    → RisingRecords rs
    → RisingRecords qs
    → All (λ (r : Record). All (Before r) qs) rs
    → RisingRecords (rs ++ qs)
rising_append [] qs a b c = b
rising_append (r ∷ rs) qs a b c = (All-append (Before r) rs qs a.0 c.0, rising_append rs qs a.1 b c.1)

positive : (n : ℕ) → (T (eqb n 0) → ⊥) → 1 ≤ n
positive zero h = absurd (h tt)
positive (suc n) h = omega arith

module _ (t : ℕ) (count : ℕ → ℕ) where
  -- a layer's records from b on: there is none for b, or it comes first
  pub layer_records_cases :
      (P : List Record → Type 0) (b n : ℕ)
      → P (layer_records t count (suc b) n)
      → (1 ≤ count b → P (record { layer = t; move = b; count = count b } ∷ layer_records t count (suc b) n))
      → P (layer_records t count b (suc n))
  unfolding layer_records
  layer_records_cases P b n without with-b =
      elim_cases P (eqb (count b) 0) (layer_records t count (suc b) n)
      (record { layer = t; move = b; count = count b } ∷ layer_records t count (suc b) n)
      (λ e. without) (λ e. with-b (positive (count b) e))

  pub layer_entries : (b n : ℕ) → All (Entry t b (b + n)) (layer_records t count b n)
  unfolding layer_records
  layer_entries b zero = tt
  layer_entries b (suc n) =
      let rs = layer_records t count (suc b) n in
      let P = Entry t (suc b) (suc b + n) in
      let Q = Entry t b (b + suc n) in
      let later = All-map {P = P} {Q = Q} rs (λ r h. omega (arith, h)) (layer_entries (suc b) n) in
      layer_records_cases (All Q) b n later (λ c. (omega arith, later))

  layer_rising : (b n : ℕ) → RisingRecords (layer_records t count b n)
  unfolding layer_records
  layer_rising b zero = tt
  layer_rising b (suc n) =
      let rs = layer_records t count (suc b) n in
      let later = layer_rising (suc b) n in
      let P = Entry t (suc b) (suc b + n) in
      layer_records_cases RisingRecords b n later
      (λ c. (All-map {P = P} rs (λ r h. omega (arith, h)) (layer_entries (suc b) n), later))

  layer_length : (b n : ℕ) → length (layer_records t count b n) ≤ n
  unfolding layer_records
  layer_length b zero = omega arith
  layer_length b (suc n) =
      let later = layer_length (suc b) n in
      layer_records_cases (λ rs. length rs ≤ suc n) b n (omega arith) (λ c. omega arith)

module _ (k : Task) (s : State) where
  abbrev descent : ℕ → Wants → Descent
  descent t w = descend k (layer_at k s t) s w

  -- the records below layer t, and those of layer t, which make up those below t + 1
  abbrev below : ℕ → Wants → List Record
  below t w = records_from k s t (descent t w).wants

  abbrev here : ℕ → Wants → List Record
  here t w = layer_records t (descent t w).count 0 (length k.moves)

  here_entries : (t : ℕ) (w : Wants) → All (Entry t 0 (length k.moves)) (here t w)
  here_entries t w = rw zero-add at (layer_entries t (descent t w).count 0 (length k.moves))

  from_bounded : (t : ℕ) (w : Wants) → All (Bounded t (length k.moves)) (records_from k s t w)
  unfolding records_from
  from_bounded zero w = tt
  from_bounded (suc t) w =
      let A = length k.moves in
      All-append (Bounded (suc t) A) (below t w) (here t w)
      (All-map {P = Bounded t A} (below t w) (λ r h. omega (arith, h)) (from_bounded t (descent t w).wants))
      (All-map {P = Entry t 0 A} (here t w) (λ r h. omega (arith, h)) (here_entries t w))

  from_rising : (t : ℕ) (w : Wants) → RisingRecords (records_from k s t w)
  unfolding records_from
  from_rising zero w = tt
  from_rising (suc t) w =
      let A = length k.moves in
      rising_append (below t w) (here t w)
      (from_rising t (descent t w).wants) (layer_rising t (descent t w).count 0 A)
      (All-map {P = Bounded t A} (below t w)
      (λ r h. All-map {P = Entry t 0 A} (here t w) (λ q i. omega (arith, h, i)) (here_entries t w))
      (from_bounded t (descent t w).wants))

  from_length : (t : ℕ) (w : Wants) → length (records_from k s t w) ≤ length k.moves * t
  unfolding records_from
  from_length zero w = omega arith
  from_length (suc t) w =
      let lower = from_length t (descent t w).wants in
      let few = layer_length t (descent t w).count 0 (length k.moves) in
      omega (arith, length-append (below t w) (here t w))

  -- every record's layer is below the answer layer, its move is one of the table's, and its count is 1 or more
  pub records_bounded : (m : ℕ) → All (Bounded m (length k.moves)) (records k s m)
  unfolding records
  records_bounded m = from_bounded m _

  -- "layers rising, then moves": so no move is recorded twice in a layer
  pub records_rising : (m : ℕ) → RisingRecords (records k s m)
  unfolding records
  records_rising m = from_rising m _

  -- there are at most A records a layer
  pub records_length : (m : ℕ) → length (records k s m) ≤ length k.moves * m
  unfolding records
  records_length m = from_length m _

module _ (k : Task) (s : State) (m : ℕ) where
  -- the goal's wants in the answer layer, and one layer down after another
  pub wants_at_answer : wants_at k s m m ≡ want_block (layer_at k s m) s no_wants k.goal
  unfolding wants_at wants_below
  wants_at_answer =
      let none : m - m ≡ 0 = omega arith in
      ap (wants_below k s m) none

  pub wants_at_down : {u : ℕ} → u < m → wants_at k s m u ≡ (descent_at k s m u).wants
  unfolding wants_at wants_below descent_at
  wants_at_down {u} h =
      let one_more : m - u ≡ suc (m - suc u) = omega arith in
      let same_layer_lem : m - suc (m - suc u) ≡ u = omega arith in
      ap (wants_below k s m) one_more
      ∙ ap (λ (t : ℕ). (descend k (layer_at k s t) s (wants_below k s m (m - suc u))).wants) same_layer_lem

  -- "From answer layer m down": the records are those of the answer layer's wants
  pub records_answer : records k s m ≡ records_from k s m (wants_at k s m m)
  unfolding records
  records_answer = ap (records_from k s m) (sym wants_at_answer)

  -- "layers rising": those of the layers below u, then those of layer u
  pub records_down :
      {u : ℕ}
      → u < m
      → records_from k s (suc u) (wants_at k s m (suc u))
      ≡ records_from k s u (wants_at k s m u) ++ layer_records u (descent_at k s m u).count 0 (length k.moves)
  unfolding records_from descent_at
  records_down {u} h =
      ap (λ (w : Wants). records_from k s u w ++ layer_records u (descent_at k s m u).count 0 (length k.moves))
      (sym (wants_at_down h))

-- ---- "Record: 52, move (1 byte), count (8 bytes)"
pub length_record_bytes : (rs : List Record) → length (record_bytes rs) ≡ 10 * length rs
unfolding record_bytes
length_record_bytes [] = refl
length_record_bytes (r ∷ rs) = rw (length-append, length_bytes, length_record_bytes rs) (omega arith)
