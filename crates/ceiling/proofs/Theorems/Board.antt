-- The rig's board: 2,048 numbers hold layers up to 118 of every table; no answer reports more than 225 layers. With all of them lent, a table
-- of at most four written variables never meets 14, and any other at layer 119 or later, if at all; 36,000 bytes hold every plan. Assumes
-- nothing.
use Rattle.std.specs.Prelude.{ℕ, ◌+◌, ◌*◌, ◌<◌, ◌≤◌, ◌≡◌, List, ltb, ℤ, Result, Err}
use Rattle.std.proofs.Math.Nat.{mul-le-mul, mul-le-mul_right}
use native.Mathlib.Omega.{arith}
use Rattle.std.proofs.Math.Path.{refl, ap, subst}
use Rattle.std.proofs.Common.{sym, ◌∙◌, nltb→le}
use Rattle.std.proofs.Math.Dec.{ltb→lt, not_T}
use Rattle.std.proofs.Math.ListN.{length, length-take}
use Rattle.model.specs.declared.Refusal.{Refusal}
use Rattle.model.specs.declared.PlanAnswer.{PlanAnswer}
use Rattle.model.specs.Limits.{paper}
use Rattle.model.specs.Task.{normal, Task}
use Rattle.model.specs.Move.{State}
use Rattle.model.specs.Layer.{Outcome, reached, exhausted, reported, outcome, bound}
use Rattle.model.specs.Memory.{Built, answered, stopped, room, build}
use Rattle.model.specs.Plan.{records}
use Rattle.model.specs.Calls.{Output, writes, turns, on_output, Ready, ready, decided, decide_of, plan_records, planned, plan_of, record_bytes}
use Rattle.ceiling.specs.Ceiling.{rig, first_of, normalised_under, prepared_under, decide_answer_under, plan_answer_under, campaign_decision_under, campaign_plan_under}
use Rattle.model.specs.Theorems.Reading.WellFormed.{TaskOk}
use Rattle.model.proofs.Theorems.Laws.Booleans.{T-cases, clash}
use Rattle.model.proofs.Theorems.Printing.Outputs.{plan_whole, plan_cases}
use Rattle.model.proofs.Theorems.Layers.Answer.{reported_bound}
use Rattle.model.proofs.Theorems.Layers.Building.{built_outcome}
use Rattle.model.proofs.Theorems.Plans.Records.{records_length, length_record_bytes}
use Rattle.model.specs.Theorems.Campaigns.Demand3.{decide_layers, plan_layers}
use Rattle.ceiling.proofs.Theorems.Fitting.{first_unfitting, StoppedShort, stopped_short, answered_fits, prepared_under_cases}
use Rattle.ceiling.specs.Theorems.Board.{Late, LayersAtMost}

-- ---- a normal task within the rig's limits
module _ {k : Task} (ok : TaskOk paper normal k) (moves : length k.moves ≤ 16) (vars : k.vars ≤ 16) where
  -- "P + A + N × (L + 1)" at its largest, 120 + 16 + 16 × 119
  pub holds_118 : (l : ℕ) → l ≤ 118 → room k l ≤ 2048
  unfolding room paper
  holds_118 l h =
      let rows : k.vars * (l + 1) ≤ 16 * (l + 1) = mul-le-mul_right (l + 1) vars in
      omega (arith, ok.props)

  -- with at most four written variables there are at most (16 + 8 + 1) × (8 + 1) layers
  few_layers : k.vars ≤ 8 → bound (length k.moves) k.vars ≤ 225
  unfolding bound
  few_layers few =
      let wide : length k.moves + k.vars + 1 ≤ 25 = omega arith in
      let rows : k.vars + 1 ≤ 9 = omega arith in
      mul-le-mul wide rows

  -- and all of them fit
  few_fit : k.vars ≤ 8 → (l : ℕ) → l ≤ 225 → room k l ≤ 2048
  unfolding room paper
  few_fit few l h =
      let last : l + 1 ≤ 226 = omega arith in
      let rows : k.vars * (l + 1) ≤ 8 * 226 = mul-le-mul few last in
      omega (arith, ok.props)

  -- a layer that fits is among the first 226: N is even, and 10 × 204 is 2,040
  fits_few : (l : ℕ) → l ≤ bound (length k.moves) k.vars → room k l ≤ 2048 → l ≤ 225
  unfolding room
  fits_few l within fits =
      T-cases (ltb 8 k.vars)
      (λ many.
      let more : 8 < k.vars = ltb→lt 8 k.vars many in
      let ten : 10 ≤ k.vars = omega (arith, ok.vars.1) in
      let rows : 10 * (l + 1) ≤ k.vars * (l + 1) = mul-le-mul_right (l + 1) ten in
      omega arith)
      (λ few. omega (arith, few_layers (nltb→le 8 k.vars (not_T (ltb 8 k.vars) few))))

  -- ---- how building ends in at most 2,048 numbers

  module _ (s : State) (size : ℕ) (most : size ≤ 2048) where
    built_few : (o : Outcome) → build paper k s size ≡ answered o → reported o ≤ 225
    built_few o e =
        let fits : room k (reported (outcome k s)) ≤ size = answered_fits paper k s size o e in
        rw (built_outcome paper k s size o e) (fits_few (reported (outcome k s)) (reported_bound ok s) (omega arith))

    -- 10 bytes a record, at most 16 records a layer
    records_fit : (b : Built) → build paper k s size ≡ b → length (record_bytes (plan_records k s b)) ≤ 36_000
    unfolding plan_records record_bytes reported
    records_fit (answered (reached m)) e =
        let few : m ≤ 225 = built_few (reached m) e in
        let all : length k.moves * m ≤ 16 * 225 = mul-le-mul moves few in
        omega (arith, length_record_bytes (records k s m), records_length k s m)
    records_fit (answered (exhausted m)) e = omega arith
    records_fit (stopped n m) e = omega arith

    decided_few : (b : Built) → build paper k s size ≡ b → LayersAtMost 225 (decide_layers (decided b))
    unfolding decided decide_layers reported
    decided_few (answered (reached m)) e = built_few (reached m) e
    decided_few (answered (exhausted m)) e = built_few (exhausted m) e
    decided_few (stopped n m) e = tt

    planned_few : (b : Built) → build paper k s size ≡ b → LayersAtMost 225 (plan_layers (planned k s b))
    unfolding planned plan_layers reported
    planned_few (answered (reached m)) e = built_few (reached m) e
    planned_few (answered (exhausted m)) e = built_few (exhausted m) e
    planned_few (stopped n m) e = tt

    stopped_late : (m : ℕ) → size ≡ 2048 → build paper k s size ≡ stopped 14 m → Late k m
    unfolding room paper
    stopped_late m whole e =
        record {
          exactly =
              first_unfitting 2048 k.props (length k.moves) k.vars m (omega (arith, many)) (omega (arith, ok.props))
              (omega (arith, stop.short)) (λ u h. omega (arith, stop.before u h));
          late = T-cases (ltb 118 m) (λ past. ltb→lt 118 m past) (λ held. absurd (omega (arith, stop.short, holds_118 m (nltb→le 118 m (not_T (ltb 118 m) held)))));
          many = many;
        }
      where
        stop : StoppedShort paper k s size m
        stop = stopped_short paper k s size m e

        many : 8 < k.vars
        many =
            T-cases (ltb 8 k.vars) (λ more. ltb→lt 8 k.vars more)
            (λ less.
            let few : k.vars ≤ 8 = nltb→le 8 k.vars (not_T (ltb 8 k.vars) less) in
            absurd (omega (arith, stop.short, few_fit few m (omega (arith, stop.reports, reported_bound ok s, few_layers few)))))

-- a refusal tells where building stopped
same_stop :
    (n l m : ℕ) → ◌≡◌ {A = Refusal} (record { number = n; place = l }) (record { number = 14; place = m })
    → stopped n l ≡ stopped 14 m
same_stop n l m e = ap (λ (r : Refusal). stopped r.number r.place) e

not_13 : {X : Type 0} (m : ℕ) → ◌≡◌ {A = Refusal} (record { number = 13; place = 0 }) (record { number = 14; place = m }) → X
not_13 m e = let z : ◌≡◌ {A = ℕ} 13 14 = ap (λ (r : Refusal). r.number) e in absurd (omega arith)

-- ---- the rig's answers
module _ (t bs : List ℕ) (layers : List ℤ) where
  abbrev used : ℕ
  used = length (first_of rig.numbers layers)

  used_most : used ≤ 2048
  unfolding rig first_of
  used_most = omega (arith, length-take 2048 layers)

  -- no answer reports more than 225 layers, whatever was lent
  pub rig_decide_layers : LayersAtMost 225 (decide_layers (decide_answer_under rig paper t bs layers))
  unfolding decide_answer_under decide_of decide_layers rig
  rig_decide_layers =
      prepared_under_cases rig (λ (r : Ready). LayersAtMost 225 (decide_layers (decide_of paper used r))) t bs
      (λ k s ok moves vars. decided_few ok moves vars s used used_most (build paper k s used) refl) (λ r. tt)

  pub rig_plan_layers : (out : List ℕ) → LayersAtMost 225 (plan_layers (plan_answer_under rig paper t bs layers out))
  unfolding plan_answer_under plan_of plan_layers rig
  rig_plan_layers out =
      prepared_under_cases rig (λ (r : Ready). LayersAtMost 225 (plan_layers (plan_of paper used (length out) r))) t bs
      (λ k s ok moves vars.
      let b : Built = build paper k s used in
      plan_cases (length out) k s b (λ (a : Result PlanAnswer Refusal). LayersAtMost 225 (plan_layers a)) (λ whole. planned_few ok moves vars s used used_most b refl) tt)
      (λ r. tt)

  -- of a table and a state that are accepted
  module _ {k : Task} {s : State} (accepted-is : prepared_under rig paper t bs ≡ ready k s) where
    within_rig : TaskOk paper normal k × (length k.moves ≤ 16) × (k.vars ≤ 16)
    unfolding rig
    within_rig =
        prepared_under_cases rig (λ (r : Ready). r ≡ ready k s → TaskOk paper normal k × (length k.moves ≤ 16) × (k.vars ≤ 16)) t bs
        (λ n u ok moves vars e. let same : n ≡ k = cc in subst (λ (x : Task). TaskOk paper normal x × (length x.moves ≤ 16) × (x.vars ≤ 16)) same (ok, moves, vars))
        (λ r e. clash cc)
        accepted-is

    -- with all 2,048 numbers 14 is met at layer 119 or later, and only with more than four written variables
    module _ (whole : 2048 ≤ length layers) where
      used_whole : used ≡ 2048
      unfolding rig first_of
      used_whole = omega (arith, length-take 2048 layers)

      late_14 : (m : ℕ) → build paper k s used ≡ stopped 14 m → Late k m
      late_14 m e = stopped_late within_rig.0 within_rig.1 within_rig.2 s used used_most m used_whole e

      pub rig_decide_14 : (m : ℕ) → decide_answer_under rig paper t bs layers ≡ Err (record { number = 14; place = m }) → Late k m
      unfolding decide_answer_under decide_of decided
      rig_decide_14 m e = go (build paper k s used) refl (ap (decide_of paper used) (sym accepted-is) ∙ e)
        where
          go : (b : Built) → build paper k s used ≡ b → decided b ≡ Err (record { number = 14; place = m }) → Late k m
          go (answered (reached l)) is same = clash cc
          go (answered (exhausted l)) is same = clash cc
          go (stopped n l) is same = late_14 m (is ∙ same_stop n l m cc)

      pub rig_plan_14 :
          (out : List ℕ) (m : ℕ) → plan_answer_under rig paper t bs layers out ≡ Err (record { number = 14; place = m }) → Late k m
      unfolding plan_answer_under plan_of planned
      rig_plan_14 out m e =
          let b : Built = build paper k s used in
          plan_cases (length out) k s b (λ (a : Result PlanAnswer Refusal). a ≡ Err (record { number = 14; place = m }) → Late k m) (λ fits. go b refl)
          (λ same. not_13 m cc) (ap (plan_of paper used (length out)) (sym accepted-is) ∙ e)
        where
          go : (b : Built) → build paper k s used ≡ b → planned k s b ≡ Err (record { number = 14; place = m }) → Late k m
          go (answered (reached l)) is same = clash cc
          go (answered (exhausted l)) is same = clash cc
          go (stopped n l) is same = late_14 m (is ∙ same_stop n l m cc)

    -- with 36,000 bytes for the plan 13 is never met
    pub rig_plan_13 : (out : List ℕ) → 36_000 ≤ length out → plan_answer_under rig paper t bs layers out ≡ planned k s (build paper k s used)
    unfolding plan_answer_under plan_of
    rig_plan_13 out enough =
        let b : Built = build paper k s used in
        let few = records_fit within_rig.0 within_rig.1 within_rig.2 s used used_most b refl in
        ap (plan_of paper used (length out)) accepted-is ∙ plan_whole (length out) k s b (omega arith)

-- in one call too no answer reports more than 225 layers
pub rig_campaign_layers :
    (t bs normalOut : List ℕ) (layers : List ℤ) (out : List ℕ)
    → LayersAtMost 225 (decide_layers (campaign_decision_under rig paper t bs normalOut layers))
    × LayersAtMost 225 (plan_layers (campaign_plan_under rig paper t bs normalOut layers out))
unfolding campaign_decision_under campaign_plan_under on_output decide_layers plan_layers
rig_campaign_layers t bs normalOut layers out = go (normalised_under rig paper t (length normalOut))
  where
    go :
        (o : Output)
        → LayersAtMost 225 (decide_layers (on_output o (λ nb. decide_answer_under rig paper nb bs layers) (λ r. Err r)))
        × LayersAtMost 225 (plan_layers (on_output o (λ nb. plan_answer_under rig paper nb bs layers out) (λ r. Err r)))
    go (writes nb) = (rig_decide_layers nb bs layers, rig_plan_layers nb bs layers out)
    go (turns r) = (tt, tt)
