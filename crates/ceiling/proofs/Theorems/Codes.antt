-- The codes of the answers under a ceiling: each taken apart is the answer, so two answers with the same code (plan's with its two further
-- numbers) are the same answer (`Theorems.Campaigns.Codes.one_answer`). Assumes nothing.
use Rattle.std.specs.Prelude.{ℕ, ◌≡◌, List, ℤ, Result}
use Rattle.std.proofs.Common.{arith}
use Rattle.model.specs.Limits.{paper}
use Rattle.ceiling.specs.Ceiling.{Ceiling, read_answer_under, block_part_under, block_refusal_under, normalise_answer_under, step_answer_under, decide_answer_under, plan_answer_under, campaign_decision_under, campaign_plan_under}
use Rattle.model.specs.Exports.{write_code, block_answer, write_apart}
use Rattle.model.specs.Theorems.Sizes.Answers.{WriteSmall}
use Rattle.model.proofs.Theorems.Sizes.Answers.{write_wider}
use Rattle.model.proofs.Theorems.Campaigns.Codes.{read_back, write_back, decide_back, plan_back}
use Rattle.ceiling.proofs.Theorems.Sizes.{read_small_under, block_small_under, normalise_small_under, step_small_under, decide_small_under, plan_small_under, campaign_decision_small_under, campaign_plan_small_under}
use Rattle.ceiling.specs.Theorems.Codes.{CodesApart}
use Rattle.model.specs.declared.Refusal.{Refusal}

-- a length of at most 64,000
short_back : (a : Result ℕ Refusal) → WriteSmall 64_000 a → write_apart (write_code a) ≡ a
short_back a small = write_back a (write_wider a (omega arith) small)

pub codes_apart : (C : Ceiling) (t bs : List ℕ) (mem : List ℤ) (normalOut out : List ℕ) → CodesApart C t bs mem normalOut out
codes_apart C t bs mem normalOut out =
    record {
      read = read_back (read_answer_under C paper t) (read_small_under C t);
      block = λ b. short_back (block_answer (block_part_under C paper t b) (block_refusal_under C paper t b)) (block_small_under C t b);
      normalise = short_back (normalise_answer_under C paper t out) (normalise_small_under C t out);
      step = λ b. let a = step_answer_under C paper t bs b out in short_back a (write_wider a (omega arith) (step_small_under C t bs b out));
      decides = decide_back (decide_answer_under C paper t bs mem) (decide_small_under C t bs mem);
      plans = plan_back (plan_answer_under C paper t bs mem out) (plan_small_under C t bs mem out);
      decision = decide_back (campaign_decision_under C paper t bs normalOut mem) (campaign_decision_small_under C t bs normalOut mem);
      plan = plan_back (campaign_plan_under C paper t bs normalOut mem out) (campaign_plan_small_under C t bs normalOut mem out);
    }
