-- Demand 3 of normalise, decide and plan in one call, as it answers.
-- Assumes nothing.
use Rattle.std.specs.Prelude.{ℕ, List, ℤ, length, Result}
use Rattle.model.specs.declared.Refusal.{Refusal}
use Rattle.model.specs.declared.DecideAnswer.{DecideAnswer}
use Rattle.model.specs.declared.PlanAnswer.{PlanAnswer}
use Rattle.model.specs.Limits.{paper}
use Rattle.model.specs.Calls.{Output, writes, turns, normal_bytes, normalised, normalise_answer}
use Rattle.model.specs.Theorems.Campaigns.Demand2.{normal_part}
use Rattle.model.specs.Theorems.Campaigns.Demand3.{Given, Answers, decide_layers, plan_layers}
use Rattle.model.specs.Theorems.Campaigns.EndToEnd.{LayersWithin}

-- the reported layers of both answers are within the bound, whatever was lent
abbrev pub Bounded : Output → Result DecideAnswer Refusal → Result PlanAnswer Refusal → Type 0
Bounded (writes nb) d p = LayersWithin nb (decide_layers d) × LayersWithin nb (plan_layers p)
Bounded (turns r) d p = Unit {0}

-- From the written table t and the state bs to both answers, d and p, and the plan's list in `after`: under 01's premises
-- (`Given`) every clause of `Answers` holds of what was answered; and, apart from it, the bound.
pub record Promise (t bs normalOut : List ℕ) (layers : List ℤ) (out : List ℕ) (d : Result DecideAnswer Refusal) (p : Result PlanAnswer Refusal) (after : List ℕ) : Type 0 where
  pub claim :
      (g : Given t bs normalOut layers out)
      → Answers g.table bs (normalise_answer paper t normalOut) (normal_part t normalOut (length (normal_bytes g.table.task))) d p out after
  pub bounded : Bounded (normalised paper t (length normalOut)) d p
