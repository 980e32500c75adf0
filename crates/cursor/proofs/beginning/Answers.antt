-- `beginning` meets its contract.
-- Assumes nothing.
use mathlib.Core.Path.{refl}
use Rattle.cursor.specs.State.{start_cursor}
use Rattle.cursor.proofs.beginning.Goals as goal

pub returns : goal.returns
unfolding start_cursor
returns c = refl
