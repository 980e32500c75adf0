-- An accepted written table and the print of its task without the terms of weight 0: that one is accepted too. Accepted tables that
-- differ only in terms of weight 0: normalise, step, campaign and the listing program do the same for both. Terms of weight 0 put into an
-- accepted table: it stays accepted. Assumes nothing.
use Rattle.std.specs.Prelude.{ℕ, ◌≡◌, ℤ}
use mathlib.Core.List.{List}
use Rattle.model.specs.Limits.{paper}
use Rattle.model.specs.Calls.{normalise_answer, normalise_out, step_answer, step_out, campaign_decision, campaign_plan, campaign_memory, campaign_out}
use Rattle.model.specs.Listing.{listing}

-- ---- tables that differ only in terms of weight 0
-- what the calls on a written table, and the listing program, do with both
pub record SameAnswers (t u : List ℕ) : Type 0 where
  pub normalise :
      (out : List ℕ)
      → (normalise_answer paper t out ≡ normalise_answer paper u out) × (normalise_out paper t out ≡ normalise_out paper u out)
  pub step :
      (bs : List ℕ) (b : ℕ) (out : List ℕ)
      → (step_answer paper t bs b out ≡ step_answer paper u bs b out) × (step_out paper t bs b out ≡ step_out paper u bs b out)
  pub decision :
      (bs normalOut : List ℕ) (mem : List ℤ) → campaign_decision paper t bs normalOut mem ≡ campaign_decision paper u bs normalOut mem
  pub plan :
      (bs normalOut : List ℕ) (mem : List ℤ) (out : List ℕ)
      → campaign_plan paper t bs normalOut mem out ≡ campaign_plan paper u bs normalOut mem out
  pub memory : (bs normalOut : List ℕ) (mem : List ℤ) → campaign_memory paper t bs normalOut mem ≡ campaign_memory paper u bs normalOut mem
  pub records :
      (bs normalOut : List ℕ) (mem : List ℤ) (out : List ℕ)
      → campaign_out paper t bs normalOut mem out ≡ campaign_out paper u bs normalOut mem out
  pub listed : (bs : List ℕ) → listing paper t bs ≡ listing paper u bs
