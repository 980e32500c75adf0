-- A yes and "no plan" never meet: where decide says "no plan" of a table and a state, in whatever memories, no list is a yes. Assumes nothing.
use Rattle.std.specs.Prelude.{ℕ, Result, Ok, Err}
use mathlib.Core.List.{List}
use Rattle.model.specs.declared.Refusal.{Refusal}
use Rattle.model.specs.declared.DecideAnswer.{DecideAnswer}
use Rattle.model.specs.declared.DecideAnswer.TheVariants as decide
use Rattle.model.specs.Task.{Task}
use Rattle.model.specs.Move.{State, Solves, real}

-- no list, of any length and range, solves the task from the state
abbrev pub Unsolvable : Task → State → Type 0
Unsolvable k s = (list : List ℕ) → Solves real k s list → ⊥

-- what an answer of decide says of a written task
abbrev pub Meant : Task → State → Result DecideAnswer Refusal → Type 0
Meant k s (Ok (decide.NoPlan m)) = Unsolvable k s
Meant k s (Ok (decide.Plan l m)) = Unit {0}
Meant k s (Err r) = Unit {0}
