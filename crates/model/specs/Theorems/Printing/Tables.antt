-- A printed task reads back: the bytes of a task that meets every check of its table's form are accepted, as that task.
-- Assumes nothing.
use Rattle.std.specs.Prelude.{ℕ}
use mathlib.Core.List.{List, [], ◌∷◌, ◌++◌}
use Rattle.std.proofs.Math.ListN.{length}
use Rattle.model.specs.Task.{Form, Task}
use Rattle.model.specs.Seen.{Head}
use Rattle.model.specs.Reading.{Table}
use Rattle.model.specs.Theorems.Reading.Marks.{starts}

-- ---- the table that a task is printed as

-- the offsets of its 41 commands, of 47 and of 45
unfoldable pub marks_of : Task → List ℕ
marks_of k = starts 4 (k.moves ++ (k.goal ∷ []))

unfoldable pub head_of : Form → Task → Head
head_of f k = record { form = f; props = k.props; vars = k.vars; moves = length k.moves }

unfoldable pub printed_table : Form → Task → Table
printed_table f k = record { header = head_of f k; task = k; marks = marks_of k }
