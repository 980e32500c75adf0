-- The records of one layer from the counts in an array: how many, and their bytes (document 01, "Plan").
-- Assumes nothing.
use Prim.Native.Nat.{ℕ, zero, suc, ◌+◌, ◌*◌, ◌-◌, ◌≤◌, ◌<◌}
use Rattle.std.proofs.Common.{zero-add, add-one, lt-ltb, ap₂, ◌∙◌, eq-eqb, ne_eqb}
use native.Mathlib.Omega.{arith}
use Rattle.std.specs.Prelude.{◌≡◌, refl, true, false, eqb, ltb, filter, length, get_or, set, take, drop}
use Rattle.std.proofs.Math.Path.{sym, ap}
use mathlib.Core.List.{List, [], ◌∷◌, ◌++◌, append_assoc, append-nil}
use Rattle.std.proofs.Math.ListN.{length-append}
use Rattle.integer.specs.BigEndian.{bytes}
use Rattle.integer.proofs.BigEndian.{length_bytes}
use Rattle.integer.specs.Store.{put, put_nil, put_cons, put_append, take_put_before, drop_put_at, length_put}
use Rattle.model.specs.Plan.{Record, layer_records}
use Rattle.model.specs.Calls.{record_bytes}
use Rattle.model.proofs.Theorems.Plans.Records.{length_record_bytes}

-- the counts in an array
unfoldable pub count_at : List ℕ → ℕ → ℕ
count_at counts b = get_or counts b 0

-- ---- the records of the moves from b on

module _ (t : ℕ) (f : ℕ → ℕ) where
  pub records_skip : {n b : ℕ} → b < n → f b ≡ 0 → layer_records t f b (n - b) ≡ layer_records t f (b + 1) (n - (b + 1))
  unfolding layer_records
  records_skip {n} {b} h e =
      let one_more : n - b ≡ suc (n - suc b) = omega arith in
      rw (add-one b) (ap (layer_records t f b) one_more ∙ rw (eq-eqb (f b) 0 e, layer_records))

  pub records_take :
      {n b : ℕ} → b < n → (f b ≡ 0 → ⊥)
      → layer_records t f b (n - b) ≡ record { layer = t; move = b; count = f b } ∷ layer_records t f (b + 1) (n - (b + 1))
  unfolding layer_records
  records_take {n} {b} h e =
      let one_more : n - b ≡ suc (n - suc b) = omega arith in
      rw (add-one b) (ap (layer_records t f b) one_more ∙ rw (ne_eqb (f b) 0 e, layer_records))

  pub records_over : {n b : ℕ} → n ≤ b → layer_records t f b (n - b) ≡ []
  unfolding layer_records
  records_over {n} {b} h = let over : n - b ≡ 0 = omega arith in ap (layer_records t f b) over

-- a move's record before others, if its count is not 0
unfoldable one_record : ℕ → ℕ → ℕ → List Record → List Record
one_record t b x rs = elim (eqb x 0) [ true ↦ rs | false ↦ record { layer = t; move = b; count = x } ∷ rs ]

one_some : (t b x : ℕ) (rs : List Record) → one_record t b (suc x) rs ≡ record { layer = t; move = b; count = suc x } ∷ rs
unfolding one_record
one_some t b x rs = rw (ne_eqb (suc x) 0 (λ e. omega arith), one_record)

-- counts that agree on the moves give the same records
pub records_same : (t : ℕ) (f g : ℕ → ℕ) (b n : ℕ) → ((c : ℕ) → c < b + n → f c ≡ g c) → layer_records t f b n ≡ layer_records t g b n
unfolding layer_records one_record
records_same t f g b zero h = refl
records_same t f g b (suc n) h =
    ap₂ (one_record t b) (h b (omega arith)) (records_same t f g (suc b) n (λ c i. h c (omega arith)))

-- ---- how many

-- as many as the counts that are not 0
pub records_counted : (counts : List ℕ) (n : ℕ) → n ≤ length counts → length (filter (ltb 0) (take n counts)) ≡ length (layer_records 0 (count_at counts) 0 n)
unfolding layer_records one_record count_at
records_counted counts n h = go n counts 0 h (λ i. rw (zero-add i) refl)
  where
    step : (b x : ℕ) (xs : List ℕ) (rs : List Record) → length (filter (ltb 0) xs) ≡ length rs → length (filter (ltb 0) (x ∷ xs)) ≡ length (one_record 0 b x rs)
    step b zero xs rs e = e
    step b (suc x) xs rs e = rw (lt-ltb 0 (suc x) (omega arith), one_some 0 b x rs) (ap suc e)

    go :
        (m : ℕ) (xs : List ℕ) (b : ℕ)
        → m ≤ length xs
        → ((i : ℕ) → get_or counts (b + i) 0 ≡ get_or xs i 0)
        → length (filter (ltb 0) (take m xs)) ≡ length (layer_records 0 (count_at counts) b m)
    go zero xs b k e = refl
    go (suc m) [] b k e = absurd (omega arith)
    go (suc m) (x ∷ xs) b k e =
        let here : b + 0 ≡ b = omega arith in
        ap (λ (y : ℕ). length (filter (ltb 0) (y ∷ take m xs))) (sym (rw here at (e 0)))
        ∙ step b (get_or counts b 0) (take m xs) (layer_records 0 (count_at counts) (suc b) m)
        (go m xs (suc b) (omega arith) (λ i. let next : suc b + i ≡ b + suc i = omega arith in rw next (e (suc i))))

-- ---- bytes

pub record_bytes_append : (rs qs : List Record) → record_bytes (rs ++ qs) ≡ record_bytes rs ++ record_bytes qs
unfolding record_bytes
record_bytes_append [] qs = refl
record_bytes_append (r ∷ rs) qs =
    ap (λ (l : List ℕ). 0x52 ∷ r.move ∷ l)
    (ap (λ (l : List ℕ). bytes 8 r.count ++ l) (record_bytes_append rs qs) ∙ sym (append_assoc (bytes 8 r.count) (record_bytes rs) (record_bytes qs)))

-- a record's bytes do not name its layer
pub record_bytes_layer : (t : ℕ) (f : ℕ → ℕ) (b n : ℕ) → record_bytes (layer_records t f b n) ≡ record_bytes (layer_records 0 f b n)
unfolding layer_records record_bytes one_record
record_bytes_layer t f b zero = refl
record_bytes_layer t f b (suc n) = go (f b) (record_bytes_layer t f (suc b) n)
  where
    go : (x : ℕ) → record_bytes (layer_records t f (suc b) n) ≡ record_bytes (layer_records 0 f (suc b) n) → record_bytes (one_record t b x (layer_records t f (suc b) n)) ≡ record_bytes (one_record 0 b x (layer_records 0 f (suc b) n))
    go zero e = e
    go (suc x) e = rw (one_some t b x, one_some 0 b x) (ap (λ (l : List ℕ). 0x52 ∷ b ∷ bytes 8 (suc x) ++ l) e)

pub records_layer_length : (t : ℕ) (f : ℕ → ℕ) (b n : ℕ) → length (layer_records t f b n) ≡ length (layer_records 0 f b n)
records_layer_length t f b n =
    omega (arith, length_record_bytes (layer_records t f b n), length_record_bytes (layer_records 0 f b n), ap length (record_bytes_layer t f b n))

-- one record's bytes
unfoldable pub one_bytes : ℕ → ℕ → List ℕ
one_bytes b n = 0x52 ∷ b ∷ bytes 8 n

pub length_one_bytes : (b n : ℕ) → length (one_bytes b n) ≡ 10
unfolding one_bytes
length_one_bytes b n = omega (arith, length_bytes 8 n)

-- the three stores
pub put_one : (l : List ℕ) (at b n : ℕ) {m : List ℕ} → at + 10 ≤ length l → m ≡ put l (at + 2) (bytes 8 n) → set (set m (at + 1) b) at 0x52 ≡ put l at (one_bytes b n)
unfolding one_bytes
put_one l at b n {m} h e =
    let second : at + 2 ≡ suc (at + 1) = omega arith in
    let first : at + 1 ≡ suc at = omega arith in
    ap (λ (x : List ℕ). set (set x (at + 1) b) at 0x52) (e ∙ ap (λ (i : ℕ). put l i (bytes 8 n)) second)
    ∙ ap (λ (x : List ℕ). set x at 0x52)
    (sym (put_cons l (at + 1) b (bytes 8 n) (omega (arith, length_bytes 8 n))) ∙ ap (λ (i : ℕ). put l i (b ∷ bytes 8 n)) first)
    ∙ sym (put_cons l at 0x52 (b ∷ bytes 8 n) (omega (arith, length_bytes 8 n)))

-- the records of the moves below b are written from `start` on, up to `at`
pub record Writing (f : ℕ → ℕ) (n : ℕ) (out : List ℕ) (start b at : ℕ) (new : List ℕ) : Type 0 where
  pub done : List ℕ
  pub all : record_bytes (layer_records 0 f 0 n) ≡ done ++ record_bytes (layer_records 0 f b (n - b))
  pub here : at ≡ start + length done
  pub new_is : new ≡ put out start done

module _ (f : ℕ → ℕ) {n : ℕ} {out : List ℕ} {start : ℕ} where
  pub writing_start : Writing f n out start 0 start out
  writing_start =
      let whole : n ≡ n - 0 = omega arith in
      record { done = []; all = ap (λ (i : ℕ). record_bytes (layer_records 0 f 0 i)) whole; here = omega arith; new_is = sym (put_nil out start) }

  module _ {b at : ℕ} {new : List ℕ} (w : Writing f n out start b at new) where
    pub writing_skip : b < n → f b ≡ 0 → Writing f n out start (b + 1) at new
    writing_skip h e =
        record { done = w.done; all = w.all ∙ ap (λ (rs : List Record). w.done ++ record_bytes rs) (records_skip 0 f h e); here = w.here; new_is = w.new_is }

    module _ (room : start + 10 * length (layer_records 0 f 0 n) ≤ length out) where
      done_short : length w.done + 10 * length (layer_records 0 f b (n - b)) ≡ 10 * length (layer_records 0 f 0 n)
      done_short =
          omega (arith, ap length w.all, length-append w.done (record_bytes (layer_records 0 f b (n - b))), length_record_bytes (layer_records 0 f b (n - b)), length_record_bytes (layer_records 0 f 0 n))

      pub writing_length : length new ≡ length out
      writing_length = ap length w.new_is ∙ length_put out start w.done (omega (arith, done_short))

      pub writing_room : b < n → (f b ≡ 0 → ⊥) → at + 10 ≤ length new
      writing_room h e = omega (arith, w.here, writing_length, done_short, ap length (records_take 0 f h e))

      pub writing_take : {more : List ℕ} → b < n → (f b ≡ 0 → ⊥) → more ≡ put new at (one_bytes b (f b)) → Writing f n out start (b + 1) (at + 10) more
      unfolding record_bytes one_bytes
      writing_take {more} h e m =
          record {
            done = w.done ++ one_bytes b (f b);
            all =
                w.all ∙ ap (λ (rs : List Record). w.done ++ record_bytes rs) (records_take 0 f h e)
                ∙ sym (append_assoc w.done (one_bytes b (f b)) (record_bytes (layer_records 0 f (b + 1) (n - (b + 1)))));
            here = omega (arith, w.here, length-append w.done (one_bytes b (f b)), length_one_bytes b (f b));
            new_is =
                m ∙ ap (λ (l : List ℕ). put l at (one_bytes b (f b))) w.new_is
                ∙ ap (λ (i : ℕ). put (put out start w.done) i (one_bytes b (f b))) w.here
                ∙ put_append out start w.done (one_bytes b (f b)) (omega (arith, done_short));
          }

    pub writing_end : n ≤ b → new ≡ put out start (record_bytes (layer_records 0 f 0 n))
    unfolding record_bytes
    writing_end h =
        w.new_is
        ∙ ap (put out start)
        (sym (w.all ∙ ap (λ (rs : List Record). w.done ++ record_bytes rs) (records_over 0 f h) ∙ append-nil w.done))

-- bytes in front of bytes that are stored already
pub put_before : (l : List ℕ) (at : ℕ) (bs cs : List ℕ) → at + length bs + length cs ≤ length l → put (put l (at + length bs) cs) at bs ≡ put l at (bs ++ cs)
unfolding put
put_before l at bs cs h =
    let q = at + length bs in
    let rest = drop (q + length cs) l in
    let front : take at (put l q cs) ≡ take at l = take_put_before l q cs h at (omega arith) in
    let back : drop q (put l q cs) ≡ cs ++ rest = drop_put_at l q cs h in
    let place : q + length cs ≡ at + length (bs ++ cs) = omega (arith, length-append bs cs) in
    ap₂ (λ (xs ys : List ℕ). xs ++ bs ++ ys) front back
    ∙ ap (λ (i : ℕ). take at l ++ bs ++ (cs ++ drop i l)) place
    ∙ simp append_assoc

-- so many records are kept while they are counted, in so many bytes
abbrev pub kept_records : ℕ
kept_records = 64

abbrev pub kept_bytes : ℕ
kept_bytes = 640

-- rs are stored in front of the records at the end of the bytes, n in all with rs, if n fit
pub record KeptBefore (kept : List ℕ) (n : ℕ) (rs : List Record) (after : List ℕ) : Type 0 where
  pub is : n ≤ kept_records → after ≡ put kept (kept_bytes - 10 * n) (record_bytes rs)
