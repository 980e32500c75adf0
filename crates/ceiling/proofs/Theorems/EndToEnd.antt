-- Demand 3 under a ceiling, for every ceiling and every table that 17 does not refuse; the same of normalise, decide and plan in one call,
-- as it answers; and the bound on layers for every answer whatever. Assumes nothing.
use Rattle.std.specs.Prelude.{ℕ, ◌≡◌, false, List, ℤ, length, take, Result, Err}
use Rattle.std.proofs.Common.{sym, ap, subst, ◌∙◌}
use Rattle.model.specs.declared.Refusal.{Refusal}
use Rattle.model.specs.declared.DecideAnswer.{DecideAnswer}
use Rattle.model.specs.declared.PlanAnswer.{PlanAnswer}
use Rattle.model.specs.Limits.{paper}
use Rattle.model.specs.Task.{written, normal}
use Rattle.model.specs.Reading.{Table, Verdict, only, reading}
use Rattle.model.specs.Layer.{reported}
use Rattle.model.specs.Memory.{room}
use Rattle.model.specs.Calls.{Output, writes, turns, on_output, normal_bytes, ready_of, prepared, decide_of, decide_answer, plan_of, plan_answer}
use Rattle.ceiling.specs.Ceiling.{Ceiling, beyond, reading_under, first_of, normalised_under, normalise_answer_under, prepared_under, decide_answer_under, plan_answer_under, plan_out_under, campaign_decision_under, campaign_plan_under, campaign_out_under}
use Rattle.model.specs.Theorems.Campaigns.Demand2.{normal_part}
use Rattle.model.specs.Theorems.Campaigns.Demand3.{relaxed_task, end_of, Given, Answers, decide_layers, plan_layers}
use Rattle.model.specs.Theorems.Campaigns.EndToEnd.{LayersWithin}
use Rattle.model.proofs.Theorems.Campaigns.EndToEnd.{demand3, decide_within, plan_within}
use Rattle.model.specs.Theorems.Campaigns.OneCall.{Bounded}
use Rattle.model.proofs.Theorems.Campaigns.OneCall.{campaign_promise}
use Rattle.ceiling.specs.Theorems.Used.{AtMost}
use Rattle.ceiling.proofs.Theorems.Used.{first_room}
use Rattle.ceiling.specs.Theorems.Calls.{Beneath}
use Rattle.ceiling.proofs.Theorems.Calls.{under_cases, same_writing, same_planning}
use Rattle.ceiling.proofs.Theorems.Campaign.{normal_beneath, same_campaign}
use Rattle.ceiling.specs.Theorems.EndToEnd.{GivenUnder, normal_part_under, PromiseUnder}

-- they hold where the layers fit into what is lent and into the ceiling's numbers
pub given_under :
    (C : Ceiling) (t bs normalOut : List ℕ) (layers : List ℤ) (out : List ℕ) (g : Given t bs normalOut layers out)
    → beyond C g.table.header ≡ false
    → AtMost C.numbers (room (relaxed_task g.table) (reported (end_of g.table bs)))
    → GivenUnder C t bs normalOut layers out
given_under C t bs normalOut layers out g beneath fits =
    record {
      given =
          record {
            table = g.table;
            read = g.read;
            state = g.state;
            normal_room = g.normal_room;
            layer_room = first_room C.numbers layers g.layer_room fits;
            plan_room = g.plan_room;
            small = g.small;
          };
      beneath = beneath;
    }

-- what demand 3 says holds of answers that are equal
same_answers :
    (w : Table) (bs before : List ℕ) {a b : Result ℕ Refusal} {nb mb : List ℕ} {d e : Result DecideAnswer Refusal} {p q : Result PlanAnswer Refusal} {x y : List ℕ}
    → a ≡ b → nb ≡ mb → d ≡ e → p ≡ q → x ≡ y
    → Answers w bs b mb e q before y
    → Answers w bs a nb d p before x
same_answers w bs before answer part decides plans output h = rw (answer, part, decides, plans, output) h

module _ (C : Ceiling) (t bs normalOut : List ℕ) (layers : List ℤ) (out : List ℕ) where
  module _ (g : GivenUnder C t bs normalOut layers out) where
    abbrev size : ℕ
    size = length (normal_bytes g.given.table.task)

    beneath_written : Beneath C (reading paper (only written) t)
    beneath_written = subst (Beneath C) (sym g.given.read) g.beneath

    part_same : normal_part_under C t normalOut size ≡ normal_part t normalOut size
    part_same = ap (take size) ((same_writing C paper t beneath_written).normal_form normalOut)

    beneath_normal : Beneath C (reading paper (only normal) (normal_part t normalOut size))
    beneath_normal =
        subst (λ (nb : List ℕ). Beneath C (reading paper (only normal) nb))
        (sym (demand3 t bs normalOut (first_of C.numbers layers) out g.given).normal_form)
        (normal_beneath C t g.given.table g.given.read g.beneath)

    -- DEMAND 3 UNDER A CEILING: "For the rig's calls demand 3 is owed for every table that 17 does not refuse". Normalise writes the
    -- normal form, and on exactly those bytes decide and plan answer as demand 3 says.
    pub demand3_under :
        let nb = normal_part_under C t normalOut (length (normal_bytes g.given.table.task)) in
        Answers g.given.table bs (normalise_answer_under C paper t normalOut) nb (decide_answer_under C paper nb bs layers)
        (plan_answer_under C paper nb bs layers out) out (plan_out_under C paper nb bs layers out)
    demand3_under =
        let same = same_planning C paper (normal_part t normalOut size) beneath_normal bs layers in
        same_answers g.given.table bs out ((same_writing C paper t beneath_written).normalise normalOut) part_same
        (ap (λ (nb : List ℕ). decide_answer_under C paper nb bs layers) part_same ∙ same.decides)
        (ap (λ (nb : List ℕ). plan_answer_under C paper nb bs layers out) part_same ∙ same.plans out)
        (ap (λ (nb : List ℕ). plan_out_under C paper nb bs layers out) part_same ∙ same.writes out)
        (demand3 t bs normalOut (first_of C.numbers layers) out g.given)

-- ---- the bound, for all inputs whatever
module _ (C : Ceiling) (t bs : List ℕ) (layers : List ℤ) where
  pub decide_within_under : LayersWithin t (decide_layers (decide_answer_under C paper t bs layers))
  unfolding decide_answer_under prepared_under reading_under decide_answer prepared ready_of decide_of decide_layers
  decide_within_under =
      let first = first_of C.numbers layers in
      under_cases C (λ (v : Verdict). LayersWithin t (decide_layers (decide_of paper (length first) (ready_of paper v bs))))
      (reading paper (only normal) t) (decide_within t bs first) tt

  pub plan_within_under : (out : List ℕ) → LayersWithin t (plan_layers (plan_answer_under C paper t bs layers out))
  unfolding plan_answer_under prepared_under reading_under plan_answer prepared ready_of plan_of plan_layers
  plan_within_under out =
      let first = first_of C.numbers layers in
      under_cases C (λ (v : Verdict). LayersWithin t (plan_layers (plan_of paper (length first) (length out) (ready_of paper v bs))))
      (reading paper (only normal) t) (plan_within t bs first out) tt

-- ---- in one call
module _ (C : Ceiling) (t bs normalOut : List ℕ) (layers : List ℤ) (out : List ℕ) where
  -- what the call answers keeps the promise
  keeps_claim :
      (g : GivenUnder C t bs normalOut layers out)
      → Answers g.given.table bs (normalise_answer_under C paper t normalOut)
      (normal_part_under C t normalOut (length (normal_bytes g.given.table.task)))
      (campaign_decision_under C paper t bs normalOut layers) (campaign_plan_under C paper t bs normalOut layers out) out
      (campaign_out_under C paper t bs normalOut layers out)
  keeps_claim g =
      let beneath = beneath_written C t bs normalOut layers out g in
      let same = same_campaign C t bs normalOut layers out beneath in
      same_answers g.given.table bs out ((same_writing C paper t beneath).normalise normalOut) (part_same C t bs normalOut layers out g)
      same.decides same.plans same.writes
      ((campaign_promise t bs normalOut (first_of C.numbers layers) out).claim g.given)

  keeps_bound :
      (o : Output)
      → Bounded o (on_output o (λ nb. decide_answer_under C paper nb bs layers) (λ r. Err r))
      (on_output o (λ nb. plan_answer_under C paper nb bs layers out) (λ r. Err r))
  unfolding on_output
  keeps_bound (writes nb) = (decide_within_under C nb bs layers, plan_within_under C nb bs layers out)
  keeps_bound (turns r) = tt

  pub promise_under :
      PromiseUnder C t bs normalOut layers out (campaign_decision_under C paper t bs normalOut layers) (campaign_plan_under C paper t bs normalOut layers out)
      (campaign_out_under C paper t bs normalOut layers out)
  unfolding campaign_decision_under campaign_plan_under
  promise_under = record { claim = keeps_claim; bounded = keeps_bound (normalised_under C paper t (length normalOut)) }
