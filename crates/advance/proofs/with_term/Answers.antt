-- `with_term` meets its contract.
-- Assumes nothing.
use mathlib.Core.Path.{refl}
use Rattle.model.specs.Command.{width}
use Rattle.cursor.specs.State.{term_cursor}
use Rattle.advance.proofs.with_term.Goals as goal

pub returns : goal.returns
unfolding term_cursor width
returns c = refl
