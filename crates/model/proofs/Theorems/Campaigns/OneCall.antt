-- Demand 3 of normalise, decide and plan in one call, as it answers.
-- Assumes nothing.
use Rattle.std.specs.Prelude.{ℕ, ◌≡◌, List, ℤ, length}
use Rattle.std.proofs.Math.Path.{refl}
use Rattle.std.proofs.Common.{sym, ap, ◌∙◌}
use Rattle.model.specs.Limits.{paper}
use Rattle.model.specs.Calls.{Output, writes, turns, normal_bytes, normalised, normalise_answer, decide_answer, plan_answer, plan_memory, plan_out, on_output, campaign_decision, campaign_plan, campaign_memory, campaign_out}
use Rattle.model.specs.Theorems.Campaigns.Demand2.{normal_part}
use Rattle.model.proofs.Theorems.Campaigns.Demand2.{normalise_writes, normalise_leaves}
use Rattle.model.specs.Theorems.Campaigns.Demand3.{Given, Answers}
use Rattle.model.proofs.Theorems.Campaigns.EndToEnd.{demand3, decide_within, plan_within}
use Rattle.model.specs.Theorems.Campaigns.OneCall.{Bounded, Promise}

module _ (t bs normalOut : List ℕ) (layers : List ℤ) (out : List ℕ) where
  -- decide and plan run on what normalise writes
  module _ (nb : List ℕ) (e : normalised paper t (length normalOut) ≡ writes nb) where
    pub decides_on : campaign_decision paper t bs normalOut layers ≡ decide_answer paper nb bs layers
    unfolding campaign_decision on_output
    decides_on = rw e refl

    pub plans_on : campaign_plan paper t bs normalOut layers out ≡ plan_answer paper nb bs layers out
    unfolding campaign_plan on_output
    plans_on = rw e refl

    pub fills_on : campaign_memory paper t bs normalOut layers ≡ plan_memory paper nb bs layers
    unfolding campaign_memory on_output
    fills_on = rw e refl

    pub writes_on : campaign_out paper t bs normalOut layers out ≡ plan_out paper nb bs layers out
    unfolding campaign_out on_output
    writes_on = rw e refl

  -- what the call answers keeps the promise
  pub campaign_promise :
      Promise t bs normalOut layers out (campaign_decision paper t bs normalOut layers) (campaign_plan paper t bs normalOut layers out)
      (campaign_out paper t bs normalOut layers out)
  campaign_promise = record { claim = claim; bounded = bounded (normalised paper t (length normalOut)) refl }
    where
      output : (g : Given t bs normalOut layers out) → normalised paper t (length normalOut) ≡ writes (normal_part t normalOut (length (normal_bytes g.table.task)))
      output g =
          normalise_writes t normalOut g.table g.read g.normal_room
          ∙ ap writes (sym (normalise_leaves t normalOut g.table g.read g.normal_room))

      claim :
          (g : Given t bs normalOut layers out)
          → Answers g.table bs (normalise_answer paper t normalOut) (normal_part t normalOut (length (normal_bytes g.table.task)))
          (campaign_decision paper t bs normalOut layers) (campaign_plan paper t bs normalOut layers out) out
          (campaign_out paper t bs normalOut layers out)
      claim g = let nb = normal_part t normalOut (length (normal_bytes g.table.task)) in
          rw (decides_on nb (output g), plans_on nb (output g), writes_on nb (output g)) (demand3 t bs normalOut layers out g)

      bounded :
          (o : Output) → normalised paper t (length normalOut) ≡ o
          → Bounded o (campaign_decision paper t bs normalOut layers) (campaign_plan paper t bs normalOut layers out)
      bounded (writes nb) e = rw (decides_on nb e, plans_on nb e) (decide_within nb bs layers, plan_within nb bs layers out)
      bounded (turns r) e = tt
