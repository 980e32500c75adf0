-- The call that writes PDDL text, over bytes: it writes the text of an accepted table and state wherever it fits, texts that are the same
-- come from the same state, moves and goal, and the plans of the text are the lists that solve the table. Assumes nothing.
use Rattle.std.specs.Prelude.{ℕ, ◌≡◌, List}
use Rattle.std.proofs.Math.Option.{none}
use Rattle.integer.specs.BigEndian.{AllBytes}
use Rattle.model.specs.Limits.{Limits}
use Rattle.model.specs.Task.{written, Task}
use Rattle.model.specs.Move.{State}
use Rattle.model.specs.Reading.{Table, accepted, only, reading}
use Rattle.model.specs.StateTable.{state_of, state_refusal}
use Rattle.model.specs.Pddl.{task_text}
use Rattle.model.specs.Theorems.Pddl.Text.{Same}

-- ---- what a call that writes was given

-- x is the text of an accepted table and an accepted state
pub record Wrote (L : Limits) (t bs x : List ℕ) : Type 0 where
  pub table : Table
  pub read : reading L (only written) t ≡ accepted table
  pub state : state_refusal L table.task.props table.task.vars bs ≡ none
  pub text : task_text table.task (state_of table.task.props bs) ≡ x

-- the task and the state whose text it is
module _ {L : Limits} {t bs x : List ℕ} (w : Wrote L t bs x) where
  abbrev pub task_in : Task
  task_in = w.table.task

  abbrev pub state_in : State
  state_in = state_of task_in.props bs

-- ---- calls that write the same
-- the tables and states of two calls that wrote the same: "the same state, moves and goal, the conditions and the effects of each in
-- the same order"
pub record SameCampaign {L : Limits} {t u bs cs x y : List ℕ} (w : Wrote L t bs x) (z : Wrote L u cs y) : Type 0 where
  pub same : Same (task_in w) (task_in z) (state_in w) (state_in z)
  -- the goals are the same whole, and the states byte for byte
  pub goal : (task_in w).goal ≡ (task_in z).goal
  pub state : AllBytes bs → AllBytes cs → bs ≡ cs
