-- `with_item` meets its contract.
-- Assumes nothing.
use mathlib.Core.Path.{refl}
use Rattle.cursor.specs.State.{item_cursor}
use Rattle.advance.proofs.with_item.Goals as goal

pub returns : goal.returns
unfolding item_cursor
returns c = refl
