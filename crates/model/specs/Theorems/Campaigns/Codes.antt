-- The code of every answer can be taken apart: its halves are the refusal's number (0 where accepted) and the place or the
-- result, and two answers with the same code are the same answer. Assumes nothing.
use Rattle.std.specs.Prelude.{ℕ, ◌≡◌, Result}
use Rattle.model.specs.declared.Refusal.{Refusal}
use Rattle.model.specs.declared.PlanAnswer.{PlanAnswer}
use Rattle.model.specs.Exports.{plan_code, plan_record_count, plan_first_moves}

-- plan's code and its two further numbers of two answers are the same, whatever these numbers held before
abbrev pub SameNumbers : Result PlanAnswer Refusal → ℕ → ℕ → Result PlanAnswer Refusal → ℕ → ℕ → Type 0
SameNumbers a x y b v w = (plan_code a ≡ plan_code b) × (plan_record_count a x ≡ plan_record_count b v) × (plan_first_moves a y ≡ plan_first_moves b w)
