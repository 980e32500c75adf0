-- From what normalise, decide and plan answer and leave to what `campaign` does.
-- Assumes nothing.
use Rattle.std.specs.Prelude.{ℕ, ◌≡◌, refl, List, ℤ, length, take, Result, Ok, Err}
use Rattle.std.proofs.Common.{sym, ◌∙◌}
use Rattle.std.proofs.Math.Path.{ap}
use Rattle.model.specs.declared.Refusal.{Refusal}
use Rattle.model.specs.declared.DecideAnswer.{DecideAnswer}
use Rattle.model.specs.declared.PlanAnswer.{PlanAnswer}
use Rattle.model.specs.Limits.{paper}
use Rattle.model.specs.Calls.{turns, normalised, normalise_answer, normalise_out, decide_answer, decide_memory, plan_answer, plan_memory, plan_out, on_output, campaign_decision, campaign_plan, campaign_memory, campaign_out}
use Rattle.model.specs.Theorems.Campaigns.Demand2.{Handed}
use Rattle.model.proofs.Theorems.Campaigns.Demand2.{written_hands, refused_turns}
use Rattle.model.proofs.Theorems.Layers.Rebuilding.{decide_length, decide_again, plan_same_length}
use Rattle.model.specs.Theorems.Campaigns.OneCall.{Promise}
use Rattle.model.proofs.Theorems.Campaigns.OneCall.{decides_on, plans_on, fills_on, writes_on, campaign_promise}

-- what campaign answers, d and p, and leaves in each memory, as equations, and demand 3 of it
pub record Done (t bs normal_form : List ℕ) (layers : List ℤ) (out normalFormAfter : List ℕ) (layersAfter : List ℤ) (outAfter : List ℕ) (d : Result DecideAnswer Refusal) (p : Result PlanAnswer Refusal) : Type 0 where
  pub decision : d ≡ campaign_decision paper t bs normal_form layers
  pub plan : p ≡ campaign_plan paper t bs normal_form layers out
  pub normal : normalFormAfter ≡ normalise_out paper t normal_form
  pub memory : layersAfter ≡ campaign_memory paper t bs normal_form layers
  pub list : outAfter ≡ campaign_out paper t bs normal_form layers out
  pub promise : Promise t bs normal_form layers out d p outAfter

-- the equations give the promise
done_by :
    (t bs normal_form : List ℕ) (layers : List ℤ) (out normalFormAfter : List ℕ) (layersAfter : List ℤ) (outAfter : List ℕ) (d : Result DecideAnswer Refusal) (p : Result PlanAnswer Refusal)
    → d ≡ campaign_decision paper t bs normal_form layers
    → p ≡ campaign_plan paper t bs normal_form layers out
    → normalFormAfter ≡ normalise_out paper t normal_form
    → layersAfter ≡ campaign_memory paper t bs normal_form layers
    → outAfter ≡ campaign_out paper t bs normal_form layers out
    → Done t bs normal_form layers out normalFormAfter layersAfter outAfter d p
done_by t bs normal_form layers out normalFormAfter layersAfter outAfter d p ed ep en em eo =
    record {
      decision = ed;
      plan = ep;
      normal = en;
      memory = em;
      list = eo;
      promise = rw (ed, ep, eo) (campaign_promise t bs normal_form layers out);
    }

-- normalise turned back
pub done_refused :
    (t bs normal_form : List ℕ) (layers : List ℤ) (out normalFormAfter : List ℕ) (r : Refusal)
    → normalise_answer paper t normal_form ≡ Err r
    → normalFormAfter ≡ normalise_out paper t normal_form
    → Done t bs normal_form layers out normalFormAfter layers out (Err r) (Err r)
unfolding campaign_decision campaign_plan campaign_memory campaign_out on_output
done_refused t bs normal_form layers out normalFormAfter r e normal =
    let o : normalised paper t (length normal_form) ≡ turns r = refused_turns t normal_form r e in
    done_by t bs normal_form layers out normalFormAfter layers out (Err r) (Err r)
    (rw o refl) (rw o refl) normal (rw o refl) (rw o refl)

-- decide and plan ran on what normalise wrote
pub done_written :
    (t bs normal_form : List ℕ) (layers : List ℤ) (out normalFormAfter part : List ℕ) (layersAfter : List ℤ) (outAfter : List ℕ) (d : Result DecideAnswer Refusal) (p : Result PlanAnswer Refusal) (n : ℕ)
    → normalise_answer paper t normal_form ≡ Ok n
    → normalFormAfter ≡ normalise_out paper t normal_form
    → part ≡ take n normalFormAfter
    → d ≡ decide_answer paper part bs layers
    → p ≡ plan_answer paper part bs layers out
    → layersAfter ≡ plan_memory paper part bs layers
    → outAfter ≡ plan_out paper part bs layers out
    → Done t bs normal_form layers out normalFormAfter layersAfter outAfter d p
done_written t bs normal_form layers out normalFormAfter part layersAfter outAfter d p n e normal is_part ed ep em eo =
    let h : Handed t normal_form n = written_hands t normal_form n e in
    let same : part ≡ h.bytes = is_part ∙ ap (take n) normal ∙ h.part in
    done_by t bs normal_form layers out normalFormAfter layersAfter outAfter d p
    (ed ∙ ap (λ (x : List ℕ). decide_answer paper x bs layers) same ∙ sym (decides_on t bs normal_form layers out h.bytes h.is))
    (ep ∙ ap (λ (x : List ℕ). plan_answer paper x bs layers out) same ∙ sym (plans_on t bs normal_form layers out h.bytes h.is))
    normal
    (em ∙ ap (λ (x : List ℕ). plan_memory paper x bs layers) same ∙ sym (fills_on t bs normal_form layers out h.bytes h.is))
    (eo ∙ ap (λ (x : List ℕ). plan_out paper x bs layers out) same ∙ sym (writes_on t bs normal_form layers out h.bytes h.is))

-- ---- plan after decide, on the memory that decide left

module _ (t bs : List ℕ) (mem after : List ℤ) (out : List ℕ) (e : after ≡ decide_memory paper t bs mem) where
  same_length : length after ≡ length mem
  same_length = ap length e ∙ decide_length t bs mem

  pub plan_after : plan_answer paper t bs after out ≡ plan_answer paper t bs mem out
  plan_after = (plan_same_length t bs after mem out same_length).0

  pub out_after : plan_out paper t bs after out ≡ plan_out paper t bs mem out
  out_after = (plan_same_length t bs after mem out same_length).1

  pub memory_after : plan_memory paper t bs after ≡ plan_memory paper t bs mem
  unfolding plan_memory
  memory_after = ap (decide_memory paper t bs) e ∙ decide_again t bs mem
