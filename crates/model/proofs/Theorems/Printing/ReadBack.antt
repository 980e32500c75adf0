-- "Record: 52, move (1 byte), count (8 bytes)", both ways: what is written for the records of a plan is bytes, and is read back as
-- the same moves and counts. Assumes nothing.
use Rattle.std.specs.Prelude.{ℕ, suc, ◌^◌, ◌≤◌, ◌<◌, ◌≡◌, refl, true, false, List, [], ◌∷◌, ◌++◌, map, leb, length, take, drop}
use Rattle.std.proofs.Common.{arith, ap, ◌∙◌, append_assoc, length-append, take_at, drop_at, le-leb}
use Rattle.std.proofs.Math.Option
use Rattle.std.proofs.Math.Option.{some}
use Rattle.integer.specs.BigEndian.{bytes, AllBytes}
use Rattle.integer.proofs.BigEndian.{all_nil, all_cons, length_bytes, bytes_small, unsigned_bytes}
use Rattle.model.specs.Limits.{paper}
use Rattle.model.specs.Task.{normal, Task}
use Rattle.model.specs.Move.{State}
use Rattle.model.specs.Memory.{wrong15}
use Rattle.model.specs.Plan.{Record, records, move_and_count}
use Rattle.model.specs.Calls.{record_bytes, records_read}
use Rattle.model.specs.Theorems.Reading.WellFormed.{All, TaskOk}
use Rattle.model.proofs.Theorems.Laws.Searching.{All-map}
use Rattle.model.specs.Theorems.Plans.Records.{Bounded}
use Rattle.model.proofs.Theorems.Plans.Records.{records_bounded}
use Rattle.model.proofs.Theorems.Printing.Bytes.{all_append}
use Rattle.model.specs.Theorems.Sizes.States.{SmallState}
use Rattle.model.proofs.Theorems.Sizes.Plans.{records_counts}

-- one record in front of the others
read_one :
    (n move count : ℕ) (rest : List ℕ)
    → count < 2 ^ 64
    → records_read (suc n) (0x52 ∷ move ∷ bytes 8 count ++ rest)
    ≡ Option.map (λ (rs : List (ℕ × ℕ)). (move, count) ∷ rs) (records_read n rest)
unfolding records_read
read_one n move count rest small =
    let long : leb 10 (suc (suc (length (bytes 8 count ++ rest)))) ≡ true =
    le-leb 10 (suc (suc (length (bytes 8 count ++ rest)))) (omega (arith, length-append (bytes 8 count) rest, length_bytes 8 count)) in
    let front : take 8 (bytes 8 count ++ rest) ≡ bytes 8 count = take_at (bytes 8 count) rest 8 (length_bytes 8 count) in
    let back : drop 8 (bytes 8 count ++ rest) ≡ rest = drop_at (bytes 8 count) rest 8 (length_bytes 8 count) in
    rw (records_read, long, front, back, unsigned_bytes 8 count small) refl

pub records_read_lem :
    (rs : List Record) (behind : List ℕ)
    → All (λ (r : Record). r.count < 2 ^ 64) rs
    → records_read (length rs) (record_bytes rs ++ behind) ≡ some (map move_and_count rs)
unfolding record_bytes records_read
records_read_lem [] behind small = refl
records_read_lem (r ∷ rs) behind small =
    ap (λ (bs : List ℕ). records_read (suc (length rs)) (0x52 ∷ r.move ∷ bs))
    (append_assoc (bytes 8 r.count) (record_bytes rs) behind)
    ∙ read_one (length rs) r.move r.count (record_bytes rs ++ behind) small.0
    ∙ ap (Option.map (λ (qs : List (ℕ × ℕ)). move_and_count r ∷ qs)) (records_read_lem rs behind small.1)

-- "move (1 byte)": every number that is written is a byte
records_bytes : (rs : List Record) → All (λ (r : Record). r.move < 256) rs → AllBytes (record_bytes rs)
unfolding record_bytes
records_bytes [] small = all_nil
records_bytes (r ∷ rs) small =
    all_cons (omega arith)
    (all_cons small.0 (all_append _ _ (bytes_small 8 _) (records_bytes rs small.1)))

-- ---- the records of a plan
module _
    {k : Task} {s : State} (ok : TaskOk paper normal k) (start : SmallState k.vars s)
    (m : ℕ) (right : (u : ℕ) → u ≤ m → wrong15 paper k s u ≡ false) (most : m ≤ 3201) where
  pub plan_read :
      (behind : List ℕ)
      → records_read (length (records k s m)) (record_bytes (records k s m) ++ behind) ≡ some (map move_and_count (records k s m))
  plan_read behind =
      records_read_lem (records k s m) behind
      (All-map {P = λ (r : Record). r.count ≤ 30_000_001_000_000} (records k s m) (λ r h. omega (arith, h))
      (records_counts ok start m right most))

  pub plan_bytes : AllBytes (record_bytes (records k s m))
  unfolding paper
  plan_bytes =
      records_bytes (records k s m)
      (All-map {P = Bounded m (length k.moves)} (records k s m) (λ r h. omega (arith, h.move, ok.moves)) (records_bounded k s m))
