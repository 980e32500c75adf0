-- Decide and plan on the first numbers of a memory, as the calls under a ceiling. Assumes nothing.
use Rattle.std.specs.Prelude.{ℕ, ◌≡◌, List, ◌++◌, ℤ, take, drop, Result}
use Rattle.std.proofs.Common.{sym, ap, ap₂, ◌∙◌}
use Rattle.model.specs.declared.Refusal.{Refusal}
use Rattle.model.specs.declared.DecideAnswer.{DecideAnswer}
use Rattle.model.specs.declared.PlanAnswer.{PlanAnswer}
use Rattle.model.specs.Limits.{paper}
use Rattle.model.specs.Task.{normal}
use Rattle.model.specs.Reading.{only, reading}
use Rattle.model.specs.Calls.{decide_answer, decide_memory, plan_answer, plan_memory, plan_out}
use Rattle.ceiling.specs.Ceiling.{decide_answer_under, decide_memory_under, plan_answer_under, plan_memory_under, plan_out_under}
use Rattle.ceiling.specs.Theorems.Calls.{Beneath}
use Rattle.ceiling.proofs.Theorems.Calls.{SamePlanning, same_planning}
use Rattle.ceiling.specs.declared.Ceiling.{Ceiling}
use Rattle.ceiling.specs.Heads.{ceiling_of}
use Rattle.ceiling.specs.Numbers.{Split}

module _ (c : Ceiling) (t bs : List ℕ) (mem : List ℤ) {n : ℕ} (s : Split c mem n) (h : Beneath (ceiling_of c) (reading paper (only normal) t)) where
  same : SamePlanning (ceiling_of c) paper t bs mem
  same = same_planning (ceiling_of c) paper t h bs mem

  pub decide_answers : {d : Result DecideAnswer Refusal} → d ≡ decide_answer paper t bs (take n mem) → d ≡ decide_answer_under (ceiling_of c) paper t bs mem
  decide_answers e = e ∙ ap (decide_answer paper t bs) s.first ∙ sym same.decides

  pub decide_leaves : {new : List ℤ} → new ≡ decide_memory paper t bs (take n mem) → new ++ drop n mem ≡ decide_memory_under (ceiling_of c) paper t bs mem
  decide_leaves e = ap₂ ◌++◌ (e ∙ ap (decide_memory paper t bs) s.first) s.behind ∙ sym same.leaves

  pub plan_answers : (out : List ℕ) {p : Result PlanAnswer Refusal} → p ≡ plan_answer paper t bs (take n mem) out → p ≡ plan_answer_under (ceiling_of c) paper t bs mem out
  plan_answers out e = e ∙ ap (λ (m : List ℤ). plan_answer paper t bs m out) s.first ∙ sym (same.plans out)

  pub plan_leaves_lem : {new : List ℤ} → new ≡ plan_memory paper t bs (take n mem) → new ++ drop n mem ≡ plan_memory_under (ceiling_of c) paper t bs mem
  plan_leaves_lem e = ap₂ ◌++◌ (e ∙ ap (plan_memory paper t bs) s.first) s.behind ∙ sym same.plan_leaves

  pub plan_writes : (out : List ℕ) {after : List ℕ} → after ≡ plan_out paper t bs (take n mem) out → after ≡ plan_out_under (ceiling_of c) paper t bs mem out
  plan_writes out e = e ∙ ap (λ (m : List ℤ). plan_out paper t bs m out) s.first ∙ sym (same.writes out)
