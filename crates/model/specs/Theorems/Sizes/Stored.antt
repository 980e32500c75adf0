-- A memory in which layers were built to the end: it holds the layers 0 to m of a task, each of which had room and passed the check
-- for 15. Assumes nothing.
use Rattle.std.specs.Prelude.{ℕ, suc, ◌≤◌, ◌≡◌, false, List, ℤ, length}
use Rattle.model.specs.Limits.{paper}
use Rattle.model.specs.Task.{normal, Task}
use Rattle.model.specs.Move.{State}
use Rattle.model.specs.Layer.{Outcome, reached, exhausted}
use Rattle.model.specs.Memory.{wrong15}
use Rattle.model.specs.Theorems.Reading.WellFormed.{TaskOk}
use Rattle.model.specs.Theorems.Layers.Memories.{Holds, size}
use Rattle.model.specs.Theorems.Sizes.States.{SmallState}

-- the bound on layers, (A + N + 1) × (N + 1), for 64 moves and 32 signed variables
abbrev pub layer_limit : ℕ
layer_limit = 3_201

-- "for each move the first layer whose step used it": with "no plan" "the step that changes nothing counts"
unfoldable pub steps_of : Outcome → ℕ
steps_of (reached t) = t
steps_of (exhausted t) = suc t

-- the memory holds the layers 0 to m of the task, with the entries of so many steps; the counts beside are the task's
pub record StoredLayers (k : Task) (s : State) (props vars moves m steps : ℕ) (mem : List ℤ) : Type 0 where
  pub ok : TaskOk paper normal k
  pub small : SmallState k.vars s
  pub props_is : k.props ≡ props
  pub vars_is : k.vars ≡ vars
  pub moves_is : length k.moves ≡ moves
  pub old : List ℤ
  pub held : Holds k s (suc m) steps old mem
  pub room : size k s (suc m) ≤ length old
  pub right : (t : ℕ) → t ≤ m → wrong15 paper k s t ≡ false
  pub bounded : m ≤ layer_limit
