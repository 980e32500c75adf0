-- What an accepted table is (document 01, "Campaign table"): its task is within every limit, its head says what the task has,
-- its bytes are the bytes of its task, and its marks are where the blocks begin. Assumes nothing.
use Rattle.std.specs.Prelude.{ℕ, ◌≤◌, ◌≡◌, List, [], ◌∷◌, ◌++◌, T, length, get_or}
use Rattle.model.specs.Limits.{Limits}
use Rattle.model.specs.Command.{head, code_of, task_bytes}
use Rattle.model.specs.Seen.{Head, Seen}
use Rattle.model.specs.Reading.{Wanted, head_wanted, Table, length_limit}
use Rattle.model.specs.Theorems.Reading.WellFormed.{TaskOk, All}
use Rattle.model.specs.Theorems.Reading.Active.{Lively}
use Rattle.model.specs.Theorems.Reading.Soundness.{Sound}
use Rattle.model.specs.Theorems.Printing.SeenBytes.{Prints}
use Rattle.model.specs.Theorems.Printing.Printed.{Printed}
use Rattle.model.specs.Theorems.Reading.Marks.{Marked, starts}

-- what every command keeps
pub record Kept (L : Limits) (w : Wanted) (t : List ℕ) (s : Seen) : Type 0 where
  pub sound : Sound L w s
  pub printed : Printed t s
  pub marked : Marked s.place s.moves s.items s.marks
  pub lively : All (Lively w) s.moves

-- an accepted table: its task, the counts of its head, its bytes, its marks, its length
pub record Accepted (L : Limits) (w : Wanted) (t : List ℕ) (k : Table) : Type 0 where
  pub ok : TaskOk L k.header.form k.task
  pub wanted : T (head_wanted w (head k.header.form))
  pub props : k.header.props ≡ k.task.props
  pub vars : k.header.vars ≡ k.task.vars
  pub moves : k.header.moves ≡ length k.task.moves
  pub prints : Prints t t (task_bytes k.header.form k.task)
  pub marks : k.marks ≡ starts 4 (k.task.moves ++ (k.task.goal ∷ []))
  pub short : length t ≤ length_limit L w t
  pub lively : All (Lively w) k.task.moves

-- Bytes 0, 2 and 3 of an accepted table are the form, the variables and the moves of its head.
pub record HeadBytes (t : List ℕ) (h : Head) : Type 0 where
  pub form : get_or t 0 0 ≡ code_of (head h.form)
  pub vars : get_or t 2 0 ≡ h.vars
  pub moves : get_or t 3 0 ≡ h.moves
