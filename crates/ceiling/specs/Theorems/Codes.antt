-- The codes of the answers under a ceiling: each taken apart is the answer, so two answers with the same code (plan's with its two further
-- numbers) are the same answer (`Theorems.Campaigns.Codes.one_answer`). Assumes nothing.
use Rattle.std.specs.Prelude.{ℕ, ◌≡◌, List, ℤ, Result}
use Rattle.model.specs.declared.Refusal.{Refusal}
use Rattle.model.specs.declared.PlanAnswer.{PlanAnswer}
use Rattle.model.specs.Limits.{paper}
use Rattle.ceiling.specs.Ceiling.{Ceiling, read_answer_under, block_part_under, block_refusal_under, normalise_answer_under, step_answer_under, decide_answer_under, plan_answer_under, campaign_decision_under, campaign_plan_under}
use Rattle.model.specs.Exports.{read_code, write_code, decide_code, plan_code, plan_record_count, plan_first_moves, block_answer, read_apart, write_apart, decide_apart, plan_apart}

-- plan's code, with its two further numbers, which held x and y before
abbrev PlanApart : Result PlanAnswer Refusal → Type 0
PlanApart a = (x y : ℕ) → plan_apart (plan_code a) (plan_record_count a x) (plan_first_moves a y) ≡ a

pub record CodesApart (C : Ceiling) (t bs : List ℕ) (mem : List ℤ) (normalOut out : List ℕ) : Type 0 where
  pub read : read_apart (read_code (read_answer_under C paper t)) ≡ read_answer_under C paper t
  pub block :
      (b : ℕ) → let a = block_answer (block_part_under C paper t b) (block_refusal_under C paper t b) in
      write_apart (write_code a) ≡ a
  pub normalise : write_apart (write_code (normalise_answer_under C paper t out)) ≡ normalise_answer_under C paper t out
  pub step : (b : ℕ) → write_apart (write_code (step_answer_under C paper t bs b out)) ≡ step_answer_under C paper t bs b out
  pub decides : decide_apart (decide_code (decide_answer_under C paper t bs mem)) ≡ decide_answer_under C paper t bs mem
  pub plans : PlanApart (plan_answer_under C paper t bs mem out)
  pub decision : decide_apart (decide_code (campaign_decision_under C paper t bs normalOut mem)) ≡ campaign_decision_under C paper t bs normalOut mem
  pub plan : PlanApart (campaign_plan_under C paper t bs normalOut mem out)
