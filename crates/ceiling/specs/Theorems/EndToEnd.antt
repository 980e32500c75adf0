-- Demand 3 under a ceiling, for every ceiling and every table that 17 does not refuse; the same of normalise, decide and plan in one call,
-- as it answers; and the bound on layers for every answer whatever. Assumes nothing.
use Rattle.std.specs.Prelude.{ℕ, ◌≡◌, false, List, ℤ, length, take, Result}
use Rattle.model.specs.declared.Refusal.{Refusal}
use Rattle.model.specs.declared.DecideAnswer.{DecideAnswer}
use Rattle.model.specs.declared.PlanAnswer.{PlanAnswer}
use Rattle.model.specs.Limits.{paper}
use Rattle.model.specs.Calls.{normal_bytes}
use Rattle.ceiling.specs.Ceiling.{Ceiling, beyond, first_of, normalised_under, normalise_answer_under, normalise_out_under}
use Rattle.model.specs.Theorems.Campaigns.Demand3.{Given, Answers}
use Rattle.model.specs.Theorems.Campaigns.OneCall.{Bounded}

-- The premises, "for every table that 17 does not refuse, with at most those 2,048 numbers as room for the layers": those of demand 3, the
-- layer memory being the numbers that the ceiling allows; and a head that is not beyond the ceiling.
pub record GivenUnder (C : Ceiling) (t bs normalOut : List ℕ) (layers : List ℤ) (out : List ℕ) : Type 0 where
  pub given : Given t bs normalOut (first_of C.numbers layers) out
  pub beneath : beyond C given.table.header ≡ false

-- the bytes that normalise leaves under a ceiling
abbrev pub normal_part_under : Ceiling → List ℕ → List ℕ → ℕ → List ℕ
normal_part_under C t normalOut n = take n (normalise_out_under C paper t normalOut)

-- ---- in one call
module _ (C : Ceiling) (t bs normalOut : List ℕ) (layers : List ℤ) (out : List ℕ) where
  -- From the written table t and the state bs to both answers, d and p, and the plan's list in `after`: under the premises every clause of
  -- demand 3 holds of what was answered; and, apart from it, the bound.
  pub record PromiseUnder (d : Result DecideAnswer Refusal) (p : Result PlanAnswer Refusal) (after : List ℕ) : Type 0 where
    pub claim :
        (g : GivenUnder C t bs normalOut layers out)
        → Answers g.given.table bs (normalise_answer_under C paper t normalOut)
        (normal_part_under C t normalOut (length (normal_bytes g.given.table.task))) d p out after
    pub bounded : Bounded (normalised_under C paper t (length normalOut)) d p
