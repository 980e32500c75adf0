-- From the bytes of a stored written table to those that the rewriter writes: the same states, and lists that solve one exactly when
-- lists solve the other, run with real moves and as relaxed tasks; so decide's and plan's answers on the new table speak of the old one
-- too. Assumes nothing.
use Rattle.std.specs.Prelude.{ℕ, ◌≡◌, ◌↔◌, List, map, Result, Ok}
use Rattle.model.specs.declared.Refusal.{Refusal}
use Rattle.model.specs.declared.DecideAnswer.{DecideAnswer}
use Rattle.model.specs.declared.DecideAnswer.TheVariants as decide
use Rattle.model.specs.Move.{real, relaxed, Solves}
use Rattle.model.specs.Reading.{Table}
use Rattle.model.specs.Plan.{move_and_count, plan_list}
use Rattle.model.specs.Rewrite.{numbered_back}
use Rattle.model.specs.Theorems.Campaigns.Demand3.{relaxed_task, start_state, layer_zero, DecideNoPlan, records_of}

-- ---- decide and plan on the new table
-- What their answers on the normal form of the new table w say of the old one.
pub record AnswersOld (old w : Table) (bs : List ℕ) (d : Result DecideAnswer Refusal) : Type 0 where
  -- "no plan" exactly when no list of any length solves the old table's relaxed task
  pub no_plan : DecideNoPlan d ↔ ((list : List ℕ) → Solves relaxed (relaxed_task old) (layer_zero old bs) list → ⊥)
  -- and then none solves the old table as written
  pub unsolvable : DecideNoPlan d → (list : List ℕ) → Solves real old.task (start_state old bs) list → ⊥
  -- otherwise the list of the plan's records, numbered back, solves the old table's relaxed task
  pub found :
      (DecideNoPlan d → ⊥)
      → (layer : ℕ) × (d ≡ Ok (decide.Plan layer layer))
      × Solves relaxed (relaxed_task old) (layer_zero old bs) (numbered_back old.task (plan_list (map move_and_count (records_of w bs layer))))
