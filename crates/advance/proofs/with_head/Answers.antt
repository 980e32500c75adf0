-- `with_head` meets its contract.
-- Assumes nothing.
use mathlib.Core.Path.{refl}
use Rattle.model.specs.Command.{width}
use Rattle.cursor.specs.State.{head_cursor, start_cursor}
use Rattle.advance.proofs.with_head.Goals as goal

pub returns : goal.returns
unfolding head_cursor start_cursor width
returns c = rw c.beginning.ensures refl
