-- Demand 3, as one theorem from the bytes of a written table and of a state to the answers of normalise, decide and plan.
-- Assumes nothing.
use Rattle.std.specs.Prelude.{ℕ, ◌*◌, ◌/◌, ◌≤◌, ◌≡◌, List, ℤ, length}
use Rattle.std.proofs.Math.Path.{refl, ap}
use Rattle.std.proofs.Common.{◌∙◌, arith}
use Rattle.std.proofs.Math.Option.{none}
use Rattle.model.specs.Limits.{paper}
use Rattle.model.specs.Task.{normal}
use Rattle.model.specs.NormalForm.{normal_task}
use Rattle.model.specs.Reading.{Table, accepted, only, reading}
use Rattle.model.specs.StateTable.{state_refusal}
use Rattle.model.specs.Memory.{Built, answered, build, overwrite}
use Rattle.model.specs.Plan.{Record}
use Rattle.model.specs.Calls.{Ready, Output, writes, fitted, output_after, ready, ready_with, ready_of, prepared, normal_bytes, decide_answer, plan_answer, plan_out, plan_records, record_bytes, decided, decide_of, planned, plan_of, plan_fitted, plan_out_of}
use Rattle.model.proofs.Theorems.Plans.Records.{length_record_bytes}
use Rattle.model.proofs.Theorems.Printing.Outputs.{fitted_whole, plan_whole}
use Rattle.model.specs.Theorems.Campaigns.Demand3.{end_of, layer_zero, relaxed_task}

-- ---- the steps from the bytes to the answers
-- "one 4-byte value a written variable (V, or N/2)"
half_double : (n : ℕ) → 2 * n / 2 ≡ n
half_double n = omega arith

pub ready_normal :
    (w n : Table) (bs : List ℕ) → reading paper (only normal) (normal_bytes w.task) ≡ accepted n
    → n.task ≡ relaxed_task w
    → state_refusal paper w.task.props w.task.vars bs ≡ none
    → prepared paper (normal_bytes w.task) bs ≡ ready (relaxed_task w) (layer_zero w bs)
unfolding prepared ready_of ready_with normal_task
ready_normal w n bs e same state = rw (e, ready_of, same, half_double w.task.vars, state) refl

-- decide's and plan's answers where the layers are built to the end
module _ (w n : Table) (bs : List ℕ) (layers : List ℤ) (out : List ℕ) (ready_is : prepared paper (normal_bytes w.task) bs ≡ ready (relaxed_task w) (layer_zero w bs)) (built : build paper (relaxed_task w) (layer_zero w bs) (length layers) ≡ answered (end_of w bs)) where
  pub decide_answers : decide_answer paper (normal_bytes w.task) bs layers ≡ decided (answered (end_of w bs))
  unfolding decide_answer decide_of
  decide_answers = rw (ready_is, built) refl

  abbrev planned_records : List Record
  planned_records = plan_records (relaxed_task w) (layer_zero w bs) (answered (end_of w bs))

  module _ (fits : 10 * length planned_records ≤ length out) where
    records_fit : length (record_bytes planned_records) ≤ length out
    records_fit = omega (arith, length_record_bytes planned_records)

    pub plan_answers : plan_answer paper (normal_bytes w.task) bs layers out ≡ planned (relaxed_task w) (layer_zero w bs) (answered (end_of w bs))
    unfolding plan_answer plan_of
    plan_answers =
        ap (λ (r : Ready). plan_of paper (length layers) (length out) r) ready_is
        ∙ ap (λ (b : Built). plan_fitted (length out) (relaxed_task w) (layer_zero w bs) b) built
        ∙ plan_whole (length out) (relaxed_task w) (layer_zero w bs) (answered (end_of w bs)) records_fit

    pub plan_writes : plan_out paper (normal_bytes w.task) bs layers out ≡ overwrite (record_bytes planned_records) out
    unfolding plan_out plan_out_of output_after
    plan_writes =
        ap (λ (r : Ready). plan_out_of paper (length layers) r out) ready_is
        ∙ ap (λ (b : Built). output_after (fitted (length out) (writes (record_bytes (plan_records (relaxed_task w) (layer_zero w bs) b)))) out) built
        ∙ ap (λ (o : Output). output_after o out) (fitted_whole (length out) (record_bytes planned_records) records_fit)
