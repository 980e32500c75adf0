-- The printed normal form: at most twice as long as the written table, accepted as the normal task, with a state that is
-- accepted for both tables or for neither. Assumes nothing.
use Rattle.std.specs.Prelude.{◌*◌, length}
use Rattle.model.specs.Task.{normal, Task}
use Rattle.model.specs.NormalForm.{normal_task}
use Rattle.model.specs.Reading.{Table}
use Rattle.model.specs.Theorems.Printing.Tables.{marks_of}

-- ---- the normal form is accepted
-- the table that a task's normal form is printed as
unfoldable pub normal_table : Task → Table
normal_table k =
    record {
      header = record { form = normal; props = k.props; vars = 2 * k.vars; moves = length k.moves };
      task = normal_task k;
      marks = marks_of (normal_task k);
    }
