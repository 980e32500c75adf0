-- What plan answers and writes can be printed, and is then what the listing prints.
-- Assumes nothing.
use Rattle.std.specs.Prelude.{ℕ, ◌*◌, ◌/◌, ◌≤◌, ◌≡◌, refl, List, [], ◌∷◌, ℤ, length, drop, Result, Err}
use Rattle.std.proofs.Common.{ap, arith}
use Rattle.std.proofs.Math.Option.{Option, none, some}
use Rattle.model.specs.declared.Refusal.{Refusal}
use Rattle.model.specs.declared.PlanAnswer.{PlanAnswer}
use Rattle.model.specs.Limits.{paper}
use Rattle.model.specs.Task.{normal, Task}
use Rattle.model.specs.Move.{State}
use Rattle.model.specs.Layer.{reached, exhausted, reported, outcome}
use Rattle.model.specs.Memory.{overwrite, Built, answered, stopped, build}
use Rattle.model.specs.Plan.{Record, records}
use Rattle.model.specs.Reading.{Table, Verdict, accepted, refused, only, reading}
use Rattle.model.specs.StateTable.{state_refusal}
use Rattle.model.specs.Calls.{Output, on_output, output_after, Ready, ready, unready, ready_with, ready_of, prepared, record_bytes, plan_records, planned, plan_fitted, plan_of, plan_answer, plan_out_of, plan_out}
use Rattle.model.specs.Listing.{listing_layers, listing_bytes, answer_text, ready_text}
use Rattle.model.specs.Theorems.Reading.WellFormed.{All, TaskOk}
use Rattle.model.proofs.Theorems.Printing.Outputs.{fitted_cases, plan_cases}
use Rattle.model.proofs.Theorems.Reading.Accepted.{reading_task}
use Rattle.model.proofs.Theorems.Layers.Building.{built_outcome}
use Rattle.model.specs.Theorems.Plans.Records.{Bounded}
use Rattle.model.proofs.Theorems.Plans.Records.{length_record_bytes, records_bounded}
use Rattle.model.specs.Theorems.Sizes.States.{SmallState}
use Rattle.model.proofs.Theorems.Sizes.States.{accepted_small, normal_state_small}
use Rattle.model.proofs.Theorems.Sizes.Plans.{reported_most, records_counts, answered_passes}
use Rattle.report.specs.Records.{Encodable}
use Rattle.report.specs.Answer.{record_count, Lists, Printable}

-- the state of a prepared task is small
abbrev Prepared : Ready → Type 0
Prepared (ready k s) = TaskOk paper normal k × SmallState k.vars s
Prepared (unready r) = Unit {0}

prepared_is : (t bs : List ℕ) → Prepared (prepared paper t bs)
unfolding prepared ready_of ready_with
prepared_is t bs = go (reading paper (only normal) t) refl
  where
    by_state : (w : Table) → reading paper (only normal) t ≡ accepted w → (r : Option Refusal) → state_refusal paper w.task.props (w.task.vars / 2) bs ≡ r → Prepared (ready_with w.task bs r)
    by_state w e none h =
        let ok : TaskOk paper normal w.task = reading_task paper normal t e in
        (ok, normal_state_small (omega (arith, ok.vars.1)) (accepted_small w.task.props (w.task.vars / 2) bs h))
    by_state w e (some r) h = tt

    go : (v : Verdict) → reading paper (only normal) t ≡ v → Prepared (ready_of paper v bs)
    go (accepted w) e = by_state w e (state_refusal paper w.task.props (w.task.vars / 2) bs) refl
    go (refused r) e = tt

-- the records of the plan
unfoldable pub planned_records : Ready → List Record
planned_records (ready k s) = plan_records k s (build paper k s listing_layers)
planned_records (unready r) = []

-- "move (1 byte), count (8 bytes)" hold the records of a plan
encodable :
    (layers moves : ℕ) (rs : List Record)
    → moves ≤ 256
    → All (Bounded layers moves) rs
    → All (λ (r : Record). r.count ≤ 30_000_001_000_000) rs
    → All Encodable rs
encodable layers moves [] few a b = tt
encodable layers moves (r ∷ rs) few a b =
    (record { move = omega (arith, a.0.move); count = omega (arith, b.0) }, encodable layers moves rs few a.1 b.1)

planned_encodable : (t bs : List ℕ) → All Encodable (planned_records (prepared paper t bs))
unfolding planned_records plan_records reported paper
planned_encodable t bs = go (prepared paper t bs) (prepared_is t bs)
  where
    by_built : (k : Task) (s : State) → TaskOk paper normal k → SmallState k.vars s → (b : Built) → build paper k s listing_layers ≡ b → All Encodable (plan_records k s b)
    by_built k s ok small (answered (reached m)) e =
        let same : reached m ≡ outcome k s = built_outcome paper k s listing_layers (reached m) e in
        let last : m ≡ reported (outcome k s) = ap reported same in
        let most : m ≤ 3201 = omega (arith, reported_most ok s) in
        encodable m (length k.moves) (records k s m) (omega (arith, ok.moves)) (records_bounded k s m)
        (records_counts ok small m (λ u h. answered_passes k s listing_layers e u (omega arith)) most)
    by_built k s ok small (answered (exhausted m)) e = tt
    by_built k s ok small (stopped n m) e = tt

    go : (r : Ready) → Prepared r → All Encodable (planned_records r)
    go (ready k s) h = by_built k s h.0 h.1 (build paper k s listing_layers) refl
    go (unready r) h = tt

-- ---- what plan writes begins with the bytes of the records that it answers

lists_built :
    (k : Task) (s : State) (old : List ℕ) (b : Built) → All Encodable (plan_records k s b)
    → Lists (planned k s b) (overwrite (record_bytes (plan_records k s b)) old) (plan_records k s b)
unfolding planned plan_records overwrite
lists_built k s old (answered (reached m)) small =
    record { many = refl; behind = drop (length (record_bytes (records k s m))) old; is = refl; small = small }
lists_built k s old (answered (exhausted m)) small = tt
lists_built k s old (stopped n m) small = tt

lists_ready :
    (q : Ready) (old : List ℕ)
    → length old ≡ listing_bytes
    → All Encodable (planned_records q)
    → Lists (plan_of paper listing_layers listing_bytes q) (plan_out_of paper listing_layers q old) (planned_records q)
unfolding planned_records plan_of plan_out_of plan_fitted on_output output_after
lists_ready (ready k s) old e small =
    let b = build paper k s listing_layers in
    let rs = plan_records k s b in
    rw e
    (fitted_cases listing_bytes (record_bytes rs)
    (λ (o : Output). Lists (on_output o (λ bs. planned k s b) (λ r. Err r)) (output_after o old) rs)
    (λ whole. lists_built k s old b small) (λ short. tt))
lists_ready (unready r) old e small = tt

-- an answered plan has no more records than fit the output
few_built : (k : Task) (s : State) (b : Built) → record_count (planned k s b) ≤ length (plan_records k s b)
unfolding record_count planned plan_records
few_built k s (answered (reached m)) = omega arith
few_built k s (answered (exhausted m)) = omega arith
few_built k s (stopped n m) = omega arith

few_ready : (q : Ready) (size room : ℕ) → 10 * record_count (plan_of paper size room q) ≤ room
unfolding plan_of record_count
few_ready (ready k s) size room =
    let b = build paper k s size in
    plan_cases room k s b (λ (a : Result PlanAnswer Refusal). 10 * record_count a ≤ room)
    (λ whole. omega (arith, few_built k s b, length_record_bytes (plan_records k s b))) (omega arith)
few_ready (unready r) size room = omega arith

text_ready : (q : Ready) → answer_text (plan_of paper listing_layers listing_bytes q) (planned_records q) ≡ ready_text paper q
unfolding planned_records plan_of ready_text answer_text
text_ready (ready k s) = refl
text_ready (unready r) = refl

-- ---- the listing's buffers: 8,192 numbers, 64,000 bytes for the normal form and for the plan, and the text

-- a plan of 64,000 bytes has at most 6,400 records, each with a line of 25 bytes at most; any other line has 56 at most
unfoldable pub text_length : ℕ
text_length = 160_056

module _ (t bs : List ℕ) (layers : List ℤ) (out : List ℕ) (length-layers : length layers ≡ listing_layers) (length-out : length out ≡ listing_bytes) where
  pub plan_lists : Lists (plan_answer paper t bs layers out) (plan_out paper t bs layers out) (planned_records (prepared paper t bs))
  unfolding plan_answer plan_out
  plan_lists = rw (length-layers, length-out) (lists_ready (prepared paper t bs) out length-out (planned_encodable t bs))

  pub plan_text : answer_text (plan_answer paper t bs layers out) (planned_records (prepared paper t bs)) ≡ ready_text paper (prepared paper t bs)
  unfolding plan_answer
  plan_text = rw (length-layers, length-out) (text_ready (prepared paper t bs))

  pub plan_printable : (text : List ℕ) → length text ≡ text_length → Printable (plan_answer paper t bs layers out) (plan_out paper t bs layers out) text
  unfolding plan_answer text_length listing_bytes
  plan_printable text h =
      record {
        records = planned_records (prepared paper t bs);
        lists = plan_lists;
        room = omega (arith, few_ready (prepared paper t bs) (length layers) (length out), length-out);
        short = omega arith;
      }

pub refused_printable : (r : Refusal) (planBytes text : List ℕ) → length text ≡ text_length → Printable (Err r) planBytes text
unfolding record_count text_length
refused_printable r planBytes text h = record { records = []; lists = tt; room = omega arith; short = omega arith }
