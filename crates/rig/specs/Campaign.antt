-- From what `campaign` does with the first numbers of a memory to what `rig_campaign` does. Assumes nothing.
use Rattle.std.specs.Prelude.{◌≡◌, ℕ, List, ◌++◌, ℤ, take, drop, Result, Err}
use Rattle.std.proofs.Common.{sym, ap, ap₂, ◌∙◌}
use Rattle.model.specs.declared.Refusal.{Refusal}
use Rattle.model.specs.declared.DecideAnswer.{DecideAnswer}
use Rattle.model.specs.declared.PlanAnswer.{PlanAnswer}
use Rattle.model.specs.Limits.{paper}
use Rattle.model.specs.Task.{written}
use Rattle.model.specs.Reading.{only, refused, reading}
use Rattle.model.specs.Calls.{campaign_decision, campaign_plan, campaign_memory, campaign_out}
use Rattle.ceiling.specs.Ceiling.{reading_under, normalise_out_under, campaign_decision_under, campaign_plan_under, campaign_memory_under, campaign_out_under}
use Rattle.ceiling.specs.Theorems.Calls.{Beneath}
use Rattle.ceiling.proofs.Theorems.Calls.{same_writing, turned_writing}
use Rattle.ceiling.proofs.Theorems.Campaign.{same_campaign, turned_campaign}
use Rattle.ceiling.specs.Theorems.EndToEnd.{PromiseUnder}
use Rattle.ceiling.proofs.Theorems.EndToEnd.{promise_under}
use Rattle.campaign.specs.Campaign as full
use Rattle.ceiling.specs.declared.Ceiling.{Ceiling}
use Rattle.ceiling.specs.Heads.{ceiling_of}
use Rattle.ceiling.specs.Numbers.{Split}

-- what it answers, d and p, and leaves in each memory, as equations, and demand 3 of it
pub record Done (c : Ceiling) (t bs normal_form : List ℕ) (layers : List ℤ) (out normalFormAfter : List ℕ) (layersAfter : List ℤ) (outAfter : List ℕ) (d : Result DecideAnswer Refusal) (p : Result PlanAnswer Refusal) : Type 0 where
  pub decision : d ≡ campaign_decision_under (ceiling_of c) paper t bs normal_form layers
  pub plan : p ≡ campaign_plan_under (ceiling_of c) paper t bs normal_form layers out
  pub normal : normalFormAfter ≡ normalise_out_under (ceiling_of c) paper t normal_form
  pub memory : layersAfter ≡ campaign_memory_under (ceiling_of c) paper t bs normal_form layers
  pub list : outAfter ≡ campaign_out_under (ceiling_of c) paper t bs normal_form layers out
  pub promise : PromiseUnder (ceiling_of c) t bs normal_form layers out d p outAfter

module _ (c : Ceiling) (t bs normal_form : List ℕ) (layers : List ℤ) (out : List ℕ) where
  -- the equations give the promise
  done_by :
      {normalFormAfter : List ℕ} {layersAfter : List ℤ} {outAfter : List ℕ} {d : Result DecideAnswer Refusal} {p : Result PlanAnswer Refusal}
      → d ≡ campaign_decision_under (ceiling_of c) paper t bs normal_form layers
      → p ≡ campaign_plan_under (ceiling_of c) paper t bs normal_form layers out
      → normalFormAfter ≡ normalise_out_under (ceiling_of c) paper t normal_form
      → layersAfter ≡ campaign_memory_under (ceiling_of c) paper t bs normal_form layers
      → outAfter ≡ campaign_out_under (ceiling_of c) paper t bs normal_form layers out
      → Done c t bs normal_form layers out normalFormAfter layersAfter outAfter d p
  done_by ed ep en em eo =
      record {
        decision = ed;
        plan = ep;
        normal = en;
        memory = em;
        list = eo;
        promise = rw (ed, ep, eo) (promise_under (ceiling_of c) t bs normal_form layers out);
      }

  -- the full call ran on the first numbers
  pub done_admitted :
      {n : ℕ} {normalFormAfter : List ℕ} {new : List ℤ} {outAfter : List ℕ} {d : Result DecideAnswer Refusal} {p : Result PlanAnswer Refusal}
      → Split c layers n
      → Beneath (ceiling_of c) (reading paper (only written) t)
      → full.Done t bs normal_form (take n layers) out normalFormAfter new outAfter d p
      → Done c t bs normal_form layers out normalFormAfter (new ++ drop n layers) outAfter d p
  done_admitted s h done =
      let same = same_campaign (ceiling_of c) t bs normal_form layers out h in
      done_by (done.decision ∙ ap (campaign_decision paper t bs normal_form) s.first ∙ sym same.decides)
      (done.plan ∙ ap (λ (m : List ℤ). campaign_plan paper t bs normal_form m out) s.first ∙ sym same.plans)
      (done.normal ∙ sym ((same_writing (ceiling_of c) paper t h).normal_form normal_form))
      (ap₂ ◌++◌ (done.memory ∙ ap (campaign_memory paper t bs normal_form) s.first) s.behind ∙ sym same.leaves)
      (done.list ∙ ap (λ (m : List ℤ). campaign_out paper t bs normal_form m out) s.first ∙ sym same.writes)

  -- the table was turned away
  pub done_turned :
      (r : Refusal) → reading_under (ceiling_of c) paper (only written) t ≡ refused r
      → Done c t bs normal_form layers out normal_form layers out (Err r) (Err r)
  done_turned r u =
      let back = turned_campaign (ceiling_of c) t bs normal_form layers out r u in
      done_by (sym back.decides) (sym back.plans) (sym ((turned_writing (ceiling_of c) paper t r u).normal_form normal_form)) (sym back.leaves) (sym back.writes)
