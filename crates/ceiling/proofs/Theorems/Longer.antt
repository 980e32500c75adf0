-- Wherever the numbers that a ceiling allows are enough, the full call on the whole memory does the same: answer, memory and plan. The one
-- difference is 14. Assumes nothing.
use Prim.Native.Nat.{ℕ, suc, ◌≤◌, ◌<◌}
use Rattle.std.proofs.Common.{arith, ◌∙◌, append_assoc, lt→ltb, length-append}
use Rattle.std.specs.Prelude.{◌≡◌, Bool, List, ◌++◌, ltb, ℤ, length, drop, Err}
use Rattle.std.proofs.Math.Path.{refl, sym, ap}
use Rattle.std.proofs.Math.Bool.{true, false}
use Rattle.std.proofs.Math.Option.{Option}
use Rattle.std.proofs.Math.Dec.{T, ltb→lt}
use Rattle.std.proofs.lemmas.List.{drop-append-le}
use Rattle.model.specs.Limits.{Limits, paper}
use Rattle.model.specs.Task.{written, normal, Task}
use Rattle.model.specs.Move.{State}
use Rattle.model.specs.Layer.{reported, outcome}
use Rattle.model.specs.Memory.{Built, stopped, room, wrong15, wrong14, refuses, stop_number, stop_at, build, built_memory, overwrite}
use Rattle.model.specs.Reading.{only, reading}
use Rattle.model.specs.Calls.{Output, writes, turns, on_output, normalised, campaign_decision, campaign_plan, campaign_memory, campaign_out, fitted, output_after, Ready, ready, unready, prepared, decided, decide_of, decide_answer, memory_of, decide_memory, record_bytes, plan_records, plan_fitted, plan_of, plan_answer, plan_memory, plan_out_of, plan_out}
use Rattle.ceiling.specs.Ceiling.{Ceiling, first_of, behind_of, normalised_under, decide_answer_under, campaign_decision_under, campaign_plan_under, campaign_memory_under, campaign_out_under}
use Rattle.model.proofs.Theorems.Laws.Booleans.{true_t, or_cases, or_left, or_right}
use Rattle.model.proofs.Theorems.Laws.Searching.{first_from_cases}
use Rattle.model.proofs.Theorems.Layers.Entries.{first_found, first_missing}
use Rattle.model.proofs.Theorems.Layers.Rebuilding.{built_fits}
use Rattle.ceiling.proofs.Theorems.Used.{first_behind}
use Rattle.ceiling.specs.Theorems.Calls.{Beneath}
use Rattle.ceiling.proofs.Theorems.Calls.{same_writing, same_planning, WholePlanning}
use Rattle.ceiling.proofs.Theorems.Campaign.{wrote_beneath}
use Rattle.ceiling.specs.Theorems.Longer.{WholeCampaign}

module _ (L : Limits) (k : Task) (s : State) {size more : ℕ} (longer : size ≤ more) where
  -- what is refused in a longer memory is refused in a shorter one
  still_refused : (t : ℕ) → T (refuses L k s more t) → T (refuses L k s size t)
  unfolding wrong14
  still_refused t bad =
      or_cases (wrong15 L k s t) (ltb more (room k t)) bad (or_left (wrong15 L k s t) (ltb size (room k t)))
      (λ short.
      let less : more < room k t = ltb→lt more (room k t) short in
      or_right (wrong15 L k s t) (ltb size (room k t)) (lt→ltb size (room k t) (omega arith)))

  -- building in a longer memory ends as in a shorter one that did not stop with 14
  pub build_more : ((m : ℕ) → build L k s size ≡ stopped 14 m → ⊥) → build L k s more ≡ build L k s size
  unfolding build stop_at stop_number
  build_more enough =
      first_from_cases (refuses L k s size)
      (λ (f : Option ℕ). ((m : ℕ) → stop_at L k s f (outcome k s) ≡ stopped 14 m → ⊥) → build L k s more ≡ stop_at L k s f (outcome k s))
      0 (suc (reported (outcome k s)))
      (λ t low high bad before enough. by_number t (omega arith) (λ u h again. before u (omega arith) h (still_refused u again)) (wrong15 L k s t) refl enough)
      (λ never enough.
      ap (λ (f : Option ℕ). stop_at L k s f (outcome k s))
      (first_missing (refuses L k s more) (suc (reported (outcome k s))) (λ u h again. never u (omega arith) (omega arith) (still_refused u again))))
      enough
    where
      by_number :
          (t : ℕ) → t < suc (reported (outcome k s)) → ((u : ℕ) → u < t → T (refuses L k s more u) → ⊥)
          → (b : Bool) → wrong15 L k s t ≡ b
          → ((m : ℕ) → stopped (stop_number (wrong15 L k s t)) t ≡ stopped 14 m → ⊥)
          → build L k s more ≡ stopped (stop_number (wrong15 L k s t)) t
      by_number t high before true large enough =
          ap (λ (f : Option ℕ). stop_at L k s f (outcome k s))
          (first_found (refuses L k s more) (suc (reported (outcome k s))) t high (or_left (wrong15 L k s t) (wrong14 k more t) (true_t large)) before)
      by_number t high before false small enough = absurd (enough t (ap (λ (b : Bool). stopped (stop_number b) t) small))

-- written over the first numbers, with the rest behind, is written over the whole
over_first : (new first behind : List ℤ) → length new ≤ length first → overwrite new first ++ behind ≡ overwrite new (first ++ behind)
unfolding overwrite
over_first new first behind h =
    append_assoc new (drop (length new) first) behind ∙ ap (λ (l : List ℤ). new ++ l) (sym (drop-append-le (length new) first behind h))

-- ---- the calls
-- what a call on the first numbers says of the call on the whole memory
module _ (L : Limits) (first behind : List ℤ) where
  abbrev whole : List ℤ
  whole = first ++ behind

  longer : length first ≤ length whole
  longer = omega (arith, length-append first behind)

  -- decide did not stop with 14
  abbrev Enough : Ready → Type 0
  Enough r = (m : ℕ) → decide_of L (length first) r ≡ Err (record { number = 14; place = m }) → ⊥

  pub more_built : (k : Task) (s : State) → Enough (ready k s) → build L k s (length whole) ≡ build L k s (length first)
  unfolding decide_of decided
  more_built k s enough = build_more L k s longer (λ m e. enough m (ap decided e))

  pub more_decides : (r : Ready) → Enough r → decide_of L (length whole) r ≡ decide_of L (length first) r
  unfolding decide_of
  more_decides (ready k s) enough = ap decided (more_built k s enough)
  more_decides (unready r) enough = refl

  pub more_leaves : (r : Ready) → Enough r → memory_of L r whole ≡ memory_of L r first ++ behind
  unfolding memory_of
  more_leaves (ready k s) enough =
      ap (λ (b : Built). overwrite (built_memory k s b) whole) (more_built k s enough)
      ∙ sym (over_first (built_memory k s (build L k s (length first))) first behind (built_fits L k s (length first)))
  more_leaves (unready r) enough = refl

  pub more_plans : (r : Ready) → Enough r → (room : ℕ) → plan_of L (length whole) room r ≡ plan_of L (length first) room r
  unfolding plan_of
  more_plans (ready k s) enough room = ap (plan_fitted room k s) (more_built k s enough)
  more_plans (unready r) enough room = refl

  pub more_writes : (r : Ready) → Enough r → (out : List ℕ) → plan_out_of L (length whole) r out ≡ plan_out_of L (length first) r out
  unfolding plan_out_of
  more_writes (ready k s) enough out =
      ap (λ (b : Built). output_after (fitted (length out) (writes (record_bytes (plan_records k s b)))) out) (more_built k s enough)
  more_writes (unready r) enough out = refl

-- Of a table that 17 does not turn away, in any memory: where decide under the ceiling does not answer 14, decide and plan answer and
-- leave what the full calls do.
pub same_but_14 :
    (C : Ceiling) (L : Limits) (t bs : List ℕ) (mem : List ℤ) → Beneath C (reading L (only normal) t)
    → ((m : ℕ) → decide_answer_under C L t bs mem ≡ Err (record { number = 14; place = m }) → ⊥)
    → WholePlanning C L t bs mem
unfolding decide_answer decide_memory plan_answer plan_memory plan_out
same_but_14 C L t bs mem h enough =
    let same = same_planning C L t h bs mem in
    let n = C.numbers in
    let first = first_of n mem in
    let all : first ++ behind_of n mem ≡ mem = first_behind n mem in
    let r = prepared L t bs in
    let fine : Enough L first (behind_of n mem) r = λ m e. enough m (same.decides ∙ e) in
    let leaves = sym (more_leaves L first (behind_of n mem) r fine) ∙ ap (memory_of L r) all in
    record {
      decides = same.decides ∙ sym (more_decides L first (behind_of n mem) r fine) ∙ ap (λ (m : List ℤ). decide_of L (length m) r) all;
      leaves = same.leaves ∙ leaves;
      plans = λ out. same.plans out ∙ sym (more_plans L first (behind_of n mem) r fine (length out)) ∙ ap (λ (m : List ℤ). plan_of L (length m) (length out) r) all;
      plan_leaves = same.plan_leaves ∙ leaves;
      writes = λ out. same.writes out ∙ sym (more_writes L first (behind_of n mem) r fine out) ∙ ap (λ (m : List ℤ). plan_out_of L (length m) r out) all;
    }

pub campaign_but_14 :
    (C : Ceiling) (t bs normalOut : List ℕ) (mem : List ℤ) (out : List ℕ) → Beneath C (reading paper (only written) t)
    → ((m : ℕ) → campaign_decision_under C paper t bs normalOut mem ≡ Err (record { number = 14; place = m }) → ⊥)
    → WholeCampaign C t bs normalOut mem out
unfolding campaign_decision_under campaign_plan_under campaign_memory_under campaign_out_under campaign_decision campaign_plan campaign_memory campaign_out on_output
campaign_but_14 C t bs normalOut mem out h = go (normalised paper t (length normalOut)) refl
  where
    under_is : normalised_under C paper t (length normalOut) ≡ normalised paper t (length normalOut)
    under_is = (same_writing C paper t h).normalises (length normalOut)

    go :
        (o : Output) → normalised paper t (length normalOut) ≡ o
        → ((m : ℕ) → campaign_decision_under C paper t bs normalOut mem ≡ Err (record { number = 14; place = m }) → ⊥)
        → WholeCampaign C t bs normalOut mem out
    go (writes nb) e enough =
        let same = same_but_14 C paper nb bs mem (wrote_beneath C t h (length normalOut) nb e) (λ m d. enough m (rw (under_is, e) d)) in
        record {
          decides = rw (under_is, e) same.decides;
          plans = rw (under_is, e) (same.plans out);
          leaves = rw (under_is, e) same.plan_leaves;
          writes = rw (under_is, e) (same.writes out);
        }
    go (turns r) e enough =
        record { decides = rw (under_is, e) refl; plans = rw (under_is, e) refl; leaves = rw (under_is, e) refl; writes = rw (under_is, e) refl }
