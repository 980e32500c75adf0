-- The records that are kept while they are counted, from the last layer backwards. Assumes nothing.
use Prim.Native.Nat.{ℕ, zero, suc, ◌+◌, ◌*◌, ◌-◌, ◌≤◌, ◌<◌}
use Rattle.std.proofs.Common.{arith, sym, ap₂, ◌∙◌, subst, length-append, take_all}
use Rattle.std.specs.Prelude.{◌≡◌, refl, List, [], ◌++◌, ℤ, length, take, drop}
use Rattle.std.proofs.Math.Path.{ap}
use Rattle.std.proofs.Math.ListN.{drop_of_length-le}
use Rattle.integer.specs.Store.{put, drop_put_at}
use Rattle.model.specs.Plan.{Record, layer_records, records_from}
use Rattle.model.specs.Calls.{record_bytes}
use Rattle.model.proofs.Theorems.Plans.Records.{length_record_bytes}
use Rattle.descent.specs.Layers.{Stored}
use Rattle.records.specs.Records.{kept_records, kept_bytes, KeptBefore, count_at, record_bytes_append, record_bytes_layer, records_layer_length}
use Rattle.passes.specs.Passes.{records_below, plan_records, Counted, split_start, split_next, down}

-- the n records of the layers from t on stand at the end of the bytes, if they fit
pub record Kept {table marks : List ℕ} {layers : List ℤ} {props vars moves m : ℕ} (x : Stored table marks layers props vars moves m) (t n : ℕ) (kept : List ℕ) : Type 0 where
  pub later : List Record
  pub split : plan_records x ≡ records_below x t ++ later
  pub many : n ≡ length later
  pub bytes : n ≤ kept_records → drop (kept_bytes - 10 * n) kept ≡ record_bytes later

-- all of them
pub record KeptWhole {table marks : List ℕ} {layers : List ℤ} {props vars moves m : ℕ} (x : Stored table marks layers props vars moves m) (n : ℕ) (kept : List ℕ) : Type 0 where
  pub bytes : n ≤ kept_records → drop (kept_bytes - 10 * n) kept ≡ record_bytes (plan_records x)

module _ {table marks : List ℕ} {layers : List ℤ} {props vars moves m : ℕ} (x : Stored table marks layers props vars moves m) where
  pub kept_start : {kept : List ℕ} → kept_bytes ≡ length kept → Kept x m 0 kept
  unfolding record_bytes
  kept_start {kept} e =
      record { later = []; split = split_start x; many = refl; bytes = λ h. drop_of_length-le kept {i = kept_bytes - 10 * 0} (omega arith) }

  pub kept_next :
      {t n c : ℕ} {kept counts more : List ℕ} → t < m → kept_bytes ≡ length kept → Kept x (suc t) n kept → Counted x t counts
      → c ≡ length (layer_records 0 (count_at counts) 0 moves)
      → KeptBefore kept (n + c) (layer_records 0 (count_at counts) 0 moves) more
      → Kept x t (n + c) more
  kept_next {t} {n} {c} {kept} {counts} {more} h long s counted is e =
      let layer = layer_records t (count_at counts) 0 moves in
      let bs = record_bytes (layer_records 0 (count_at counts) 0 moves) in
      record {
        later = layer ++ s.later;
        split = split_next x s.later h counted s.split;
        many = omega (arith, is, s.many, length-append layer s.later, records_layer_length t (count_at counts) 0 moves);
        bytes =
            λ few.
            let at = kept_bytes - 10 * (n + c) in
            let place : at + length bs ≡ kept_bytes - 10 * n = omega (arith, length_record_bytes (layer_records 0 (count_at counts) 0 moves), is) in
            ap (drop at) (e.is few)
            ∙ drop_put_at kept at bs (omega (arith, place))
            ∙ ap (λ (i : ℕ). bs ++ drop i kept) place
            ∙ ap₂ ◌++◌ (sym (record_bytes_layer t (count_at counts) 0 moves)) (s.bytes (omega arith))
            ∙ sym (record_bytes_append layer s.later);
      }

  pub kept_end : (t : ℕ) {n : ℕ} {kept : List ℕ} → t ≤ 0 → Kept x t n kept → KeptWhole x n kept
  unfolding records_from
  kept_end zero h s = record { bytes = λ few. s.bytes few ∙ ap record_bytes (sym s.split) }
  kept_end (suc t) h s = absurd (omega arith)

  -- the copy of the kept records is the plan's output
  pub kept_copied :
      {n : ℕ} {kept new : List ℕ} (out : List ℕ) → n ≤ kept_records → n ≡ length (plan_records x) → 10 * n ≤ length out → KeptWhole x n kept
      → new ≡ put out 0 (take (length out) (take (kept_bytes - (kept_bytes - 10 * n)) (drop (kept_bytes - 10 * n) kept)))
      → new ≡ put out 0 (record_bytes (plan_records x))
  kept_copied {n} {kept} {new} out few total room k e =
      let rs = record_bytes (plan_records x) in
      let long = length_record_bytes (plan_records x) in
      e
      ∙ ap (λ (l : List ℕ). put out 0 (take (length out) (take (kept_bytes - (kept_bytes - 10 * n)) l))) (k.bytes few)
      ∙ ap (λ (l : List ℕ). put out 0 (take (length out) l)) (take_all (kept_bytes - (kept_bytes - 10 * n)) rs (omega (arith, long, total)))
      ∙ ap (put out 0) (take_all (length out) rs (omega (arith, long, total)))

-- a turn starts from layer t, above 0
pub kept_down :
    {table marks : List ℕ} {layers : List ℤ} {props vars moves m : ℕ} {x : Stored table marks layers props vars moves m} {t n : ℕ} {kept : List ℕ}
    → 0 < t
    → Kept x t n kept
    → Kept x (suc (t - 1)) n kept
kept_down {x = x} {t = t} {n = n} {kept = kept} h s = subst (λ (i : ℕ). Kept x i n kept) (down t h) s
