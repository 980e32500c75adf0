-- PDDL text computed from bytes: M1's, that of a table with every form, the empty table's, that of a table with a term of weight 0; the
-- order of refusals; a plan of M1's text. Assumes nothing.
use Rattle.std.specs.Prelude.{refl, [], ◌∷◌}
use Rattle.std.proofs.Common.{lit≤}
use Rattle.model.specs.Limits.{paper}
use Rattle.model.specs.Move.{real, Solves}
use Rattle.model.specs.StateTable.{state_of}
use Rattle.model.specs.PddlMeaning.{TextPlan}
use Rattle.model.specs.Theorems.Campaigns.Tables.{zeros, m1, m1_normal, empty_goal}
use Rattle.model.specs.Theorems.Campaigns.Cases.{grid}
use Rattle.model.specs.Theorems.Campaigns.Computing.{computing}
use Rattle.model.specs.Theorems.Campaigns.Instance.{table_in, m1_table}
use Rattle.model.specs.Theorems.Pddl.Calls.{Wrote}
use Rattle.model.proofs.Theorems.Pddl.Calls.{text_plans}
use Rattle.model.specs.Theorems.Pddl.Cases.{Cases, empty_text, grid_text, m1_text, mixed, mixed_state, mixed_text, text_lines}

pub cases : Cases
unfolding computing text_lines m1 m1_normal empty_goal m1_text mixed mixed_state mixed_text empty_text grid grid_text
cases =
    record {
      m1_text_holds = refl;
      m1_length = refl;
      mixed_text_holds = refl;
      empty_text_holds = refl;
      grid_text_holds = refl;
      short = refl;
      state_first = refl;
      table_first = refl;
    }

-- the theorems' premises can be met: a plan of M1's text, since the list solves M1
m1_wrote : Wrote paper m1 (zeros 9) m1_text
unfolding computing text_lines m1 m1_table table_in m1_text
m1_wrote = record { table = m1_table; read = refl; state = refl; text = refl }

pub m1_plan : TextPlan m1_text (0 ∷ 0 ∷ 2 ∷ 1 ∷ 1 ∷ 1 ∷ 0 ∷ 1 ∷ [])
unfolding computing m1 m1_table table_in m1_wrote
m1_plan = (text_plans m1_wrote (0 ∷ 0 ∷ 2 ∷ 1 ∷ 1 ∷ 1 ∷ 0 ∷ 1 ∷ [])).1 solved
  where
    solved : Solves real m1_table.task (state_of 1 (zeros 9)) (0 ∷ 0 ∷ 2 ∷ 1 ∷ 1 ∷ 1 ∷ 0 ∷ 1 ∷ [])
    solved =
        (lit≤ tt, tt, (lit≤ tt, tt, (lit≤ tt, tt, (lit≤ tt, tt, (lit≤ tt, tt, (lit≤ tt, tt, (lit≤ tt, tt, (lit≤ tt, tt, tt))))))))
