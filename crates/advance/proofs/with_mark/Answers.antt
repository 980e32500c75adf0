-- `with_mark` meets its contract.
-- Assumes nothing.
use mathlib.Core.Path.{refl}
use Rattle.cursor.specs.State.{mark_cursor}
use Rattle.advance.proofs.with_mark.Goals as goal

pub returns : goal.returns
unfolding mark_cursor
returns c = refl
