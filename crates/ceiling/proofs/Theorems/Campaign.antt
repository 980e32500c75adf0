-- Normalise, decide and plan in one call under a ceiling: the normal form of a table within a ceiling is within it, so the call answers
-- and writes what the full one does on the numbers that the ceiling allows, and keeps the rest. Assumes nothing.
use Rattle.std.specs.Prelude.{ℕ, ◌≤◌, ◌≡◌, false, length, Err}
use Rattle.std.proofs.Common.{arith, sym, ap, ◌∙◌}
use Rattle.std.proofs.Math.Path.{refl, subst}
use mathlib.Core.List.{List, ◌++◌}
use Rattle.std.proofs.Math.IntN.{ℤ}
use Rattle.model.specs.declared.Refusal.{Refusal}
use Rattle.model.specs.Limits.{paper}
use Rattle.model.specs.Task.{Form, written, normal}
use Rattle.model.specs.NormalForm.{normal_task}
use Rattle.model.specs.Reading.{Table, Verdict, accepted, refused, only, reading}
use Rattle.model.specs.Calls.{Output, writes, turns, fitted, normal_of, normal_bytes, normalised, on_output, campaign_decision, campaign_plan, campaign_memory, campaign_out}
use Rattle.ceiling.specs.Ceiling.{Ceiling, most_vars, beyond, reading_under, first_of, behind_of, normalised_under, campaign_decision_under, campaign_plan_under, campaign_memory_under, campaign_out_under}
use Rattle.model.proofs.Theorems.Laws.Booleans.{clash}
use Rattle.model.proofs.Theorems.Reading.Accepted.{reading_head, reading_form}
use Rattle.model.proofs.Theorems.Printing.Outputs.{fitted_cases}
use Rattle.model.specs.Theorems.NormalForm.Print.{normal_table}
use Rattle.model.proofs.Theorems.NormalForm.Print.{normal_accepted}
use Rattle.model.proofs.Theorems.Campaigns.OneCall.{decides_on, plans_on, fills_on, writes_on}
use Rattle.ceiling.proofs.Theorems.Used.{first_behind}
use Rattle.ceiling.specs.Theorems.Calls.{Beneath}
use Rattle.ceiling.proofs.Theorems.Calls.{same_writing, same_planning}
use Rattle.ceiling.proofs.Theorems.Full.{not_beyond, beneath_counts}

module _ (C : Ceiling) (t : List ℕ) where
  -- the normal form has twice the variables and as many moves
  pub normal_beneath :
      (w : Table) → reading paper (only written) t ≡ accepted w → beyond C w.header ≡ false
      → Beneath C (reading paper (only normal) (normal_bytes w.task))
  unfolding most_vars normal_table normal_task
  normal_beneath w e h =
      let counts = reading_head paper (only written) t e in
      let form : w.header.form ≡ written = reading_form paper written t e in
      let within = beneath_counts C w.header h in
      let vars = subst (λ (f : Form). w.header.vars ≤ most_vars C f) form within.1 in
      subst (Beneath C) (sym (normal_accepted t e))
      (not_beyond C (normal_table w.task).header (omega (arith, within.0, counts.2)) (omega (arith, vars, counts.1)))

  -- what normalise writes is within the ceiling
  pub wrote_beneath :
      Beneath C (reading paper (only written) t) → (size : ℕ) (nb : List ℕ) → normalised paper t size ≡ writes nb
      → Beneath C (reading paper (only normal) nb)
  unfolding normalised normal_of fitted
  wrote_beneath h size nb = go (reading paper (only written) t) refl h
    where
      go :
          (v : Verdict) → reading paper (only written) t ≡ v → Beneath C v → fitted size (normal_of v) ≡ writes nb
          → Beneath C (reading paper (only normal) nb)
      go (accepted w) is h e =
          fitted_cases size (normal_bytes w.task) (λ (o : Output). o ≡ writes nb → Beneath C (reading paper (only normal) nb))
          (λ fits e. let same : normal_bytes w.task ≡ nb = cc in subst (λ (l : List ℕ). Beneath C (reading paper (only normal) l)) same (normal_beneath w is h))
          (λ short e. clash cc) e
      go (refused r) is h e = clash cc

  module _ (bs normalOut : List ℕ) (layers : List ℤ) (out : List ℕ) where
    -- "Within them the rig's answers and memory equal the full calls'."
    pub record SameCampaign : Type 0 where
      pub decides : campaign_decision_under C paper t bs normalOut layers ≡ campaign_decision paper t bs normalOut (first_of C.numbers layers)
      pub plans : campaign_plan_under C paper t bs normalOut layers out ≡ campaign_plan paper t bs normalOut (first_of C.numbers layers) out
      pub leaves :
          campaign_memory_under C paper t bs normalOut layers
          ≡ campaign_memory paper t bs normalOut (first_of C.numbers layers) ++ behind_of C.numbers layers
      pub writes : campaign_out_under C paper t bs normalOut layers out ≡ campaign_out paper t bs normalOut (first_of C.numbers layers) out

    pub same_campaign : Beneath C (reading paper (only written) t) → SameCampaign
    unfolding campaign_decision_under campaign_plan_under campaign_memory_under campaign_out_under campaign_decision campaign_plan campaign_memory campaign_out on_output
    same_campaign h = go (normalised paper t (length normalOut)) refl
      where
        first : List ℤ
        first = first_of C.numbers layers

        under_is : normalised_under C paper t (length normalOut) ≡ normalised paper t (length normalOut)
        under_is = (same_writing C paper t h).normalises (length normalOut)

        go : (o : Output) → normalised paper t (length normalOut) ≡ o → SameCampaign
        go (writes nb) e =
            let same = same_planning C paper nb (wrote_beneath h (length normalOut) nb e) bs layers in
            record {
              decides = rw (under_is, e) same.decides ∙ sym (decides_on t bs normalOut first out nb e);
              plans = rw (under_is, e) (same.plans out) ∙ sym (plans_on t bs normalOut first out nb e);
              leaves = rw (under_is, e) same.plan_leaves ∙ ap (λ (m : List ℤ). m ++ behind_of C.numbers layers) (sym (fills_on t bs normalOut first out nb e));
              writes = rw (under_is, e) (same.writes out) ∙ sym (writes_on t bs normalOut first out nb e);
            }
        go (turns r) e =
            record {
              decides = rw (under_is, e) refl;
              plans = rw (under_is, e) refl;
              leaves = rw (under_is, e) (sym (first_behind C.numbers layers));
              writes = rw (under_is, e) refl;
            }

    -- turned away, with 17 or an earlier refusal: every lent memory is kept
    pub record TurnedCampaign (r : Refusal) : Type 0 where
      pub decides : campaign_decision_under C paper t bs normalOut layers ≡ Err r
      pub plans : campaign_plan_under C paper t bs normalOut layers out ≡ Err r
      pub leaves : campaign_memory_under C paper t bs normalOut layers ≡ layers
      pub writes : campaign_out_under C paper t bs normalOut layers out ≡ out

    pub turned_campaign : (r : Refusal) → reading_under C paper (only written) t ≡ refused r → TurnedCampaign r
    unfolding campaign_decision_under campaign_plan_under campaign_memory_under campaign_out_under on_output normalised_under normal_of fitted
    turned_campaign r u = record { decides = rw u refl; plans = rw u refl; leaves = rw u refl; writes = rw u refl }
