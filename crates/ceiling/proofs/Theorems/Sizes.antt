-- Every number of an answer under a ceiling is small enough for the machine's, as those of the full calls are. Assumes nothing.
use Rattle.std.specs.Prelude.{ℕ, List, ℤ, length, Err}
use Rattle.std.proofs.Common.{lit≤}
use Rattle.model.specs.Limits.{paper}
use Rattle.model.specs.Task.{written, normal}
use Rattle.model.specs.Reading.{Verdict, only, both, reading}
use Rattle.model.specs.Calls.{read_of, read_answer, part_of, no_block, block_part, block_refusal, on_output, fitted, write_answer, normal_of, normalised, normalise_answer, step_of, stepped, step_answer, ready_of, prepared, decide_of, decide_answer, plan_of, plan_answer}
use Rattle.ceiling.specs.Ceiling.{Ceiling, seventeen, reading_under, first_of, read_answer_under, block_part_under, block_refusal_under, normalised_under, normalise_answer_under, stepped_under, step_answer_under, prepared_under, decide_answer_under, plan_answer_under, campaign_decision_under, campaign_plan_under}
use Rattle.model.specs.Exports.{block_answer}
use Rattle.model.specs.Theorems.Reading.Places.{Small, IfSome}
use Rattle.model.specs.Theorems.Sizes.Answers.{place_limit, ReadSmall, WriteSmall, DecideSmall, PlanSmall}
use Rattle.model.proofs.Theorems.Sizes.Answers.{read_small, normalise_small, step_small, decide_small, plan_small, on_normal, block_refused, block_small}
use Rattle.ceiling.proofs.Theorems.Calls.{under_cases}

small_17 : Small place_limit seventeen
small_17 = record { positive = lit≤ tt; number = lit≤ tt; place = lit≤ tt }

module _ (C : Ceiling) (t : List ℕ) where
  pub read_small_under : ReadSmall (read_answer_under C paper t)
  unfolding read_answer_under reading_under read_answer read_of
  read_small_under = under_cases C (λ (v : Verdict). ReadSmall (read_of v)) (reading paper both t) (read_small t) small_17

  pub block_refused_under : (b : ℕ) → IfSome (Small place_limit) (block_refusal_under C paper t b)
  unfolding block_refusal_under reading_under block_refusal no_block
  block_refused_under b =
      under_cases C (λ (v : Verdict). IfSome (Small place_limit) (no_block b v)) (reading paper both t) (block_refused t b) small_17

  pub block_small_under : (b : ℕ) → WriteSmall 64_000 (block_answer (block_part_under C paper t b) (block_refusal_under C paper t b))
  unfolding block_part_under block_refusal_under reading_under block_part block_refusal part_of no_block block_answer
  block_small_under b =
      under_cases C (λ (v : Verdict). WriteSmall 64_000 (block_answer (part_of t b v) (no_block b v))) (reading paper both t) (block_small t b) small_17

  pub normalise_small_under : (out : List ℕ) → WriteSmall 64_000 (normalise_answer_under C paper t out)
  unfolding normalise_answer_under normalised_under reading_under normalise_answer normalised normal_of fitted write_answer
  normalise_small_under out =
      under_cases C (λ (v : Verdict). WriteSmall 64_000 (write_answer (fitted (length out) (normal_of v)))) (reading paper (only written) t)
      (normalise_small t out) small_17

  module _ (bs : List ℕ) where
    pub step_small_under : (b : ℕ) (out : List ℕ) → WriteSmall 184 (step_answer_under C paper t bs b out)
    unfolding step_answer_under stepped_under reading_under step_answer stepped step_of fitted write_answer
    step_small_under b out =
        under_cases C (λ (v : Verdict). WriteSmall 184 (write_answer (fitted (length out) (step_of paper v bs b)))) (reading paper (only written) t)
        (step_small t bs b out) small_17

    pub decide_small_under : (layers : List ℤ) → DecideSmall (decide_answer_under C paper t bs layers)
    unfolding decide_answer_under prepared_under reading_under decide_answer prepared ready_of decide_of
    decide_small_under layers =
        let first = first_of C.numbers layers in
        under_cases C (λ (v : Verdict). DecideSmall (decide_of paper (length first) (ready_of paper v bs))) (reading paper (only normal) t)
        (decide_small t bs first) small_17

    pub plan_small_under : (layers : List ℤ) (out : List ℕ) → PlanSmall (plan_answer_under C paper t bs layers out)
    unfolding plan_answer_under prepared_under reading_under plan_answer prepared ready_of plan_of
    plan_small_under layers out =
        let first = first_of C.numbers layers in
        under_cases C (λ (v : Verdict). PlanSmall (plan_of paper (length first) (length out) (ready_of paper v bs))) (reading paper (only normal) t)
        (plan_small t bs first out) small_17

module _ (C : Ceiling) (t bs normalOut : List ℕ) (layers : List ℤ) where
  pub campaign_decision_small_under : DecideSmall (campaign_decision_under C paper t bs normalOut layers)
  unfolding campaign_decision_under normalised_under reading_under normalised normal_of fitted on_output
  campaign_decision_small_under =
      under_cases C
      (λ (v : Verdict). DecideSmall (on_output (fitted (length normalOut) (normal_of v)) (λ nb. decide_answer_under C paper nb bs layers) (λ r. Err r)))
      (reading paper (only written) t)
      (on_normal DecideSmall _ _ t (length normalOut) (λ nb. decide_small_under C nb bs layers) (λ r s. s)) small_17

  pub campaign_plan_small_under : (out : List ℕ) → PlanSmall (campaign_plan_under C paper t bs normalOut layers out)
  unfolding campaign_plan_under normalised_under reading_under normalised normal_of fitted on_output
  campaign_plan_small_under out =
      under_cases C
      (λ (v : Verdict). PlanSmall (on_output (fitted (length normalOut) (normal_of v)) (λ nb. plan_answer_under C paper nb bs layers out) (λ r. Err r)))
      (reading paper (only written) t)
      (on_normal PlanSmall _ _ t (length normalOut) (λ nb. plan_small_under C nb bs layers out) (λ r s. s)) small_17
