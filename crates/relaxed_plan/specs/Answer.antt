-- The answer of `plan` with what the two lent memories hold afterwards. Assumes nothing.
use Rattle.std.specs.Prelude.{ℕ, ◌*◌, ◌≤◌, ◌<◌, ◌≡◌, refl, List, [], ℤ, Result, Ok, Err}
use Rattle.std.proofs.Common.{arith, ◌∙◌, subst, le-ltb}
use Rattle.std.proofs.Math.Path.{sym, ap}
use Rattle.std.proofs.Math.ListN.{length}
use Rattle.integer.specs.Store.{put}
use Rattle.model.specs.declared.Refusal.{Refusal}
use Rattle.model.specs.declared.PlanAnswer.{PlanAnswer}
use Rattle.model.specs.declared.PlanAnswer.TheVariants as plan
use Rattle.model.specs.Limits.{paper}
use Rattle.model.specs.Task.{normal, Task}
use Rattle.model.specs.Move.{State, move_at}
use Rattle.model.specs.Layer.{reached, exhausted, reported}
use Rattle.model.specs.Memory.{overwrite, Built, answered, stopped}
use Rattle.model.specs.Plan.{records, helpful_moves}
use Rattle.model.specs.Calls.{writes, fitted, output_after, Ready, ready, unready, prepared, memory_of, decide_memory, record_bytes, plan_records, planned, plan_fitted, plan_of, plan_answer, plan_memory, plan_out_of, plan_out, Output}
use Rattle.model.proofs.Theorems.Plans.Records.{length_record_bytes}
use Rattle.model.specs.Theorems.Campaigns.Demand3.{plan_layers}
use Rattle.model.proofs.Theorems.Printing.Outputs.{fitted_whole, fitted_short, plan_whole, plan_short, put_first}
use Rattle.model.specs.Theorems.Campaigns.EndToEnd.{LayersWithin}
use Rattle.model.proofs.Theorems.Campaigns.EndToEnd.{plan_within}
use Rattle.model.specs.Theorems.Sizes.Stored.{steps_of}
use Rattle.table.specs.Outlines.{Outline}
use Rattle.reader.specs.Parts.{outline_part}
use Rattle.block.specs.Parts.{move_left, goal_left}
use Rattle.layers.specs.declared.Built.{Built as BuiltAnswer}
use Rattle.layers.specs.declared.Built.TheVariants as building
use Rattle.layers.specs.Starting.{start_of}
use Rattle.layers.specs.Building.{IsBuilt, built_of}
use Rattle.layers.specs.Preparing.{ReadyIn}
use Rattle.layers.specs.Leaving.{built_layers}
use Rattle.achievers.specs.Search.{Parts}
use Rattle.descent.specs.Layers.{Stored}

-- ---- what building leaves

pub outlined_parts : {table marks : List ℕ} {k : Task} → Outline normal table marks k → Parts table marks k
unfolding move_at
outlined_parts {table} {marks} {k} o =
    record {
      inside = outline_part o;
      move = λ b h. move_left o.ok b h (o.move b h);
      goal = goal_left o.ok o.goal;
    }

module _ {t bs marks : List ℕ} {props vars moves m : ℕ} {mem mem' : List ℤ} (r : ReadyIn t bs marks props vars moves) (b : IsBuilt r.task (start_of props bs) mem mem' (Ok (building.Reached m))) where
  -- the memory holds the layers up to the answer layer
  pub built_stored : Stored t marks mem' props vars moves m
  unfolding built_of reported steps_of
  built_stored =
      record {
        task = r.task;
        start = start_of props bs;
        parts = outlined_parts r.outlined;
        memory = built_layers r b (reached m) refl;
      }

-- ---- what the call answers and leaves

pub record Planned (t bs : List ℕ) (mem mem' : List ℤ) (out out' : List ℕ) (r : Result PlanAnswer Refusal) : Type 0 where
  pub answers : r ≡ plan_answer paper t bs mem out
  pub leaves : mem' ≡ plan_memory paper t bs mem
  pub writes_is : out' ≡ plan_out paper t bs mem out

-- "bounded by the formula": the reported layers are within (A + N + 1) × (N + 1), with the counts of the head
pub planned_within : {t bs : List ℕ} {mem mem' : List ℤ} {out out' : List ℕ} {r : Result PlanAnswer Refusal} → Planned t bs mem mem' out out' r → LayersWithin t (plan_layers r)
planned_within {t} {bs} {mem} {out = out} p = subst (λ (a : Result PlanAnswer Refusal). LayersWithin t (plan_layers a)) (sym p.answers) (plan_within t bs mem out)

pub planned_refused : (t bs : List ℕ) (mem : List ℤ) (out : List ℕ) {r : Refusal} → prepared paper t bs ≡ unready r → Planned t bs mem mem out out (Err r)
unfolding plan_answer plan_of plan_memory decide_memory memory_of plan_out plan_out_of
planned_refused t bs mem out e =
    record {
      answers = sym (ap (plan_of paper (length mem) (length out)) e);
      leaves = sym (ap (λ (x : Ready). memory_of paper x mem) e);
      writes_is = sym (ap (λ (x : Ready). plan_out_of paper (length mem) x out) e);
    }

module _ (t bs : List ℕ) (mem mem' : List ℤ) (out : List ℕ) {k : Task} {s : State} {b : Result BuiltAnswer Refusal} (e : prepared paper t bs ≡ ready k s) (built : IsBuilt k s mem mem' b) where
  pub planned_built :
      {out' : List ℕ} {r : Result PlanAnswer Refusal}
      → r ≡ plan_fitted (length out) k s (built_of b)
      → out' ≡ output_after (fitted (length out) (writes (record_bytes (plan_records k s (built_of b))))) out
      → Planned t bs mem mem' out out' r
  unfolding plan_answer plan_of plan_memory decide_memory memory_of plan_out plan_out_of
  planned_built f g =
      record {
        answers =
            f ∙ ap (plan_fitted (length out) k s) built.ended
            ∙ sym (ap (plan_of paper (length mem) (length out)) e);
        leaves = built.memory ∙ sym (ap (λ (x : Ready). memory_of paper x mem) e);
        writes_is =
            g ∙ ap (λ (x : Built). output_after (fitted (length out) (writes (record_bytes (plan_records k s x)))) out) built.ended
            ∙ sym (ap (λ (x : Ready). plan_out_of paper (length mem) x out) e);
      }

-- no records
none_fit : (n : ℕ) (k : Task) (s : State) (b : Built) → plan_records k s b ≡ [] → plan_fitted n k s b ≡ planned k s b
unfolding record_bytes
none_fit n k s b none = plan_whole n k s b (rw none (omega arith))

none_out : (out : List ℕ) → out ≡ output_after (fitted (length out) (writes (record_bytes []))) out
unfolding record_bytes fitted output_after overwrite
none_out out = rw (le-ltb (length out) 0 (omega arith), fitted) refl

module _ (t bs : List ℕ) (mem mem' : List ℤ) (out : List ℕ) {k : Task} {s : State} (e : prepared paper t bs ≡ ready k s) where
  -- "No plan" is no refusal: it writes no plan bytes and its set of helpful moves is empty.
  pub planned_exhausted : {m : ℕ} → IsBuilt k s mem mem' (Ok (building.Exhausted m)) → Planned t bs mem mem' out out (Ok (plan.NoPlan m 0 0))
  unfolding built_of plan_records planned
  planned_exhausted {m} built =
      planned_built t bs mem mem' out e built (sym (none_fit (length out) k s (answered (exhausted m)) refl)) (none_out out)

  pub planned_stopped : {r : Refusal} → IsBuilt k s mem mem' (Err r) → Planned t bs mem mem' out out (Err r)
  unfolding built_of plan_records planned
  planned_stopped {r} built = planned_built t bs mem mem' out e built (sym (none_fit (length out) k s (stopped r.number r.place) refl)) (none_out out)

-- ---- the records of an answer layer

pub record Extracted (k : Task) (s : State) (m : ℕ) (out out' : List ℕ) (r : Result PlanAnswer Refusal) : Type 0 where
  pub answers : r ≡ plan_fitted (length out) k s (answered (reached m))
  pub writes_is : out' ≡ output_after (fitted (length out) (writes (record_bytes (records k s m)))) out

module _ (k : Task) (s : State) (m : ℕ) (out : List ℕ) {n set : ℕ} (total : n ≡ length (records k s m)) (helpful : set ≡ helpful_moves k s m) where
  abbrev bytes : List ℕ
  bytes = record_bytes (records k s m)

  -- "13 | output shorter than the result | 0"
  pub extracted_short : length out < 10 * n → Extracted k s m out out (Err (record { number = 13; place = 0 }))
  unfolding output_after plan_records
  extracted_short h =
      let short : length out < length bytes = omega (arith, length_record_bytes (records k s m)) in
      record {
        answers = sym (plan_short (length out) k s (answered (reached m)) short);
        writes_is = sym (ap (λ (o : Output). output_after o out) (fitted_short (length out) bytes short));
      }

  pub extracted_written : {out' : List ℕ} → 10 * n ≤ length out → out' ≡ put out 0 bytes → Extracted k s m out out' (Ok (plan.Plan m m n set))
  unfolding output_after planned plan_records
  extracted_written h e =
      let fits : length bytes ≤ length out = omega (arith, length_record_bytes (records k s m)) in
      record {
        answers = rw (total, helpful) (sym (plan_whole (length out) k s (answered (reached m)) fits));
        writes_is =
            e ∙ put_first out bytes
            ∙ sym (ap (λ (o : Output). output_after o out) (fitted_whole (length out) bytes fits));
      }

module _ {t bs marks : List ℕ} {props vars moves m : ℕ} {mem mem' : List ℤ} (out : List ℕ) (r : ReadyIn t bs marks props vars moves) (b : IsBuilt r.task (start_of props bs) mem mem' (Ok (building.Reached m))) where
  pub planned_reached : {out' : List ℕ} {a : Result PlanAnswer Refusal} → Extracted (built_stored r b).task (built_stored r b).start m out out' a → Planned t bs mem mem' out out' a
  unfolding built_of plan_records built_stored
  planned_reached x = planned_built t bs mem mem' out r.is b x.answers x.writes_is
