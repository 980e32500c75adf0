-- Wherever the numbers that a ceiling allows are enough, the full call on the whole memory does the same: answer, memory and plan. The one
-- difference is 14. Assumes nothing.
use Prim.Native.Nat.{ℕ}
use Rattle.std.specs.Prelude.{◌≡◌, List, ℤ}
use Rattle.model.specs.Limits.{paper}
use Rattle.model.specs.Calls.{campaign_decision, campaign_plan, campaign_memory, campaign_out}
use Rattle.ceiling.specs.Ceiling.{Ceiling, campaign_decision_under, campaign_plan_under, campaign_memory_under, campaign_out_under}

-- in one call too
pub record WholeCampaign (C : Ceiling) (t bs normalOut : List ℕ) (mem : List ℤ) (out : List ℕ) : Type 0 where
  pub decides : campaign_decision_under C paper t bs normalOut mem ≡ campaign_decision paper t bs normalOut mem
  pub plans : campaign_plan_under C paper t bs normalOut mem out ≡ campaign_plan paper t bs normalOut mem out
  pub leaves : campaign_memory_under C paper t bs normalOut mem ≡ campaign_memory paper t bs normalOut mem
  pub writes : campaign_out_under C paper t bs normalOut mem out ≡ campaign_out paper t bs normalOut mem out
