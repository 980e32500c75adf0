-- The records in the bytes of a plan, and their lines one behind the other. Assumes nothing.
use Rattle.std.specs.Prelude.{ℕ, ◌+◌, ◌*◌, ◌^◌, ◌≤◌, ◌<◌, ◌≡◌, refl, take, drop}
use Rattle.std.proofs.Common.{arith, ap₂, ◌∙◌, subst, length-append, take_at, drop_at, drop-drop, get_or-drop}
use Rattle.std.proofs.Math.Path.{sym, ap}
use mathlib.Core.List.{List, [], ◌∷◌, ◌++◌, append_assoc}
use Rattle.std.proofs.Math.ListN.{length, get_or}
use Rattle.integer.specs.BigEndian.{unsigned, bytes}
use Rattle.integer.proofs.BigEndian.{length_bytes, unsigned_bytes}
use Rattle.model.specs.Plan.{Record}
use Rattle.model.specs.Calls.{record_bytes}
use Rattle.model.specs.Listing.{records_text}
use Rattle.model.specs.Theorems.Reading.WellFormed.{All}
use Rattle.model.proofs.Theorems.Plans.Records.{length_record_bytes}
use Rattle.output.specs.Writing.{Written, Writing, writing_start, writing_rest, writing_behind, writing_step, writing_end}
use Rattle.report.specs.Lines.{pair_text, record_line, record_room}

-- a record that its bytes hold whole
pub record Encodable (r : Record) : Type 0 where
  pub move : r.move < 256
  pub count : r.count < 2 ^ 64

-- the plan's bytes begin with those of the n records rs
pub record Planned (plan : List ℕ) (n : ℕ) (rs : List Record) : Type 0 where
  pub many : n ≡ length rs
  pub behind : List ℕ
  pub is : plan ≡ record_bytes rs ++ behind
  pub small : All Encodable rs

pub record Listable (plan : List ℕ) (n : ℕ) : Type 0 where
  pub records : List Record
  pub planned : Planned plan n records

pub planned_long : {plan : List ℕ} {n : ℕ} {rs : List Record} → Planned plan n rs → 10 * n ≤ length plan
planned_long {plan} {n} {rs} p =
    omega (arith, p.many, ap length p.is, length-append (record_bytes rs) p.behind, length_record_bytes rs)

records_line : (r : Record) (rs : List Record) → records_text (r ∷ rs) ≡ record_line r.move r.count ++ records_text rs
unfolding records_text record_line pair_text
records_line r rs = refl

pub records_room : (rs : List Record) → All Encodable rs → length (records_text rs) ≤ 25 * length rs
unfolding records_text
records_room [] small = omega arith
records_room (r ∷ rs) small =
    omega
    (arith, ap length (records_line r rs), length-append (record_line r.move r.count) (records_text rs), record_room r.move r.count small.0.move small.0.count, records_room rs small.1)

-- ---- "Record: 52, move (1 byte), count (8 bytes)": the first of the records that stand from an offset on

module _ (plan : List ℕ) (i : ℕ) {m : ℕ} {r : Record} {rs : List Record} (p : Planned (drop (10 * i) plan) m (r ∷ rs)) where
  -- behind the two bytes before the count
  count_bytes : drop 2 (drop (10 * i) plan) ≡ bytes 8 r.count ++ (record_bytes rs ++ p.behind)
  unfolding record_bytes
  count_bytes = ap (drop 2) p.is ∙ append_assoc (bytes 8 r.count) (record_bytes rs) p.behind

  move_read : get_or plan (10 * i + 1) 0 ≡ r.move
  unfolding record_bytes
  move_read = sym (get_or-drop (10 * i) plan 1 0) ∙ ap (λ (l : List ℕ). get_or l 1 0) p.is

  count_read : unsigned (take 8 (drop (10 * i + 2) plan)) ≡ r.count
  count_read =
      ap (λ (l : List ℕ). unsigned (take 8 l)) (sym (drop-drop 2 (10 * i) plan) ∙ count_bytes)
      ∙ ap unsigned (take_at (bytes 8 r.count) (record_bytes rs ++ p.behind) 8 (length_bytes 8 r.count))
      ∙ unsigned_bytes 8 r.count p.small.0.count

  others_planned : Planned (drop (10 * (i + 1)) plan) (length rs) rs
  others_planned =
      let e : 10 * (i + 1) ≡ 10 * i + 2 + 8 = omega arith in
      record {
        many = refl;
        behind = p.behind;
        is =
            ap (λ (n : ℕ). drop n plan) e
            ∙ sym (drop-drop 8 (10 * i + 2) plan)
            ∙ ap (drop 8) (sym (drop-drop 2 (10 * i) plan) ∙ count_bytes)
            ∙ drop_at (bytes 8 r.count) (record_bytes rs ++ p.behind) 8 (length_bytes 8 r.count);
        small = p.small.1;
      }

-- ---- line by line: those of the first i records are written

pub record Listed (old : List ℕ) (at : ℕ) (plan : List ℕ) (rs : List Record) (new : List ℕ) (next i : ℕ) : Type 0 where
  pub rest : List Record
  pub passed : i + length rest ≡ length rs
  pub left : Planned (drop (10 * i) plan) (length rest) rest
  pub writing : Writing old at (records_text rs) new next (records_text rest)

pub listed_none : (old : List ℕ) (at : ℕ) {plan : List ℕ} {n : ℕ} {rs : List Record} → Planned plan n rs → Listed old at plan rs old at 0
listed_none old at {rs = rs} p =
    record {
      rest = rs;
      passed = omega arith;
      left = record { many = refl; behind = p.behind; is = p.is; small = p.small };
      writing = writing_start old at (records_text rs);
    }

module _ {old : List ℕ} {at : ℕ} {plan : List ℕ} {rs : List Record} {new : List ℕ} {next i : ℕ} (l : Listed old at plan rs new next i) where
  pub next_room : {n : ℕ} → Planned plan n rs → next ≤ at + 25 * n
  next_room {n} p = omega (arith, p.many, writing_behind l.writing, records_room rs p.small)

  pub listed_next :
      i < length rs
      → {move count : ℕ}
      → move ≡ get_or plan (10 * i + 1) 0
      → count ≡ unsigned (take 8 (drop (10 * i + 2) plan))
      → {new' : List ℕ} {next' : ℕ}
      → Written new next (record_line move count) new' next'
      → Listed old at plan rs new' next' (i + 1)
  listed_next h {move} {count} m c {new'} {next'} w = go l.rest l.passed l.left l.writing
    where
      go :
          (rest : List Record)
          → i + length rest ≡ length rs
          → Planned (drop (10 * i) plan) (length rest) rest
          → Writing old at (records_text rs) new next (records_text rest)
          → Listed old at plan rs new' next' (i + 1)
      go [] p q v = absurd (omega arith)
      go (r ∷ others) p q v =
          let line : record_line move count ≡ record_line r.move r.count = ap₂ record_line (m ∙ move_read plan i q) (c ∙ count_read plan i q) in
          record {
            rest = others;
            passed = omega arith;
            left = others_planned plan i q;
            writing = writing_step (writing_rest v (records_line r others)) (subst (λ (bs : List ℕ). Written new next bs new' next') line w);
          }

  pub listed_all : length rs ≤ i → Written old at (records_text rs) new next
  unfolding records_text
  listed_all h = go l.rest l.passed l.writing
    where
      go :
          (rest : List Record)
          → i + length rest ≡ length rs
          → Writing old at (records_text rs) new next (records_text rest)
          → Written old at (records_text rs) new next
      go [] p v = writing_end v
      go (r ∷ others) p v = absurd (omega arith)
