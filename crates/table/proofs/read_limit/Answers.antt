-- `read_limit` meets its contract: no byte, 54, another byte.
-- Assumes nothing.
use native.Mathlib.Omega.{arith}
use Rattle.model.specs.Limits.{paper}
use Rattle.model.specs.Command.{code_of}
use Rattle.table.specs.Answer.{limit_empty, limit_written, limit_other}
use Rattle.table.proofs.read_limit.Goals as goal
use Rattle.table.proofs.read_limit.Goals.{else-table-gt0-via-then-table-gt0+else-table-eq84, else-table-gt0-via-else-table-gt0}

pub returns-then-table-eq84 : goal.returns-then-table-eq84
unfolding paper code_of
returns-then-table-eq84 c = limit_written _ c.if-table-eq84.true

pub returns-else-table-gt0 : goal.returns-else-table-gt0
unfolding paper code_of
returns-else-table-gt0 c =
    elim c.else-table-gt0.branch [
      | else-table-gt0-via-then-table-gt0+else-table-eq84 w ↦ limit_other _ w.if-table-eq84.false
      | else-table-gt0-via-else-table-gt0 w ↦ limit_empty _ (omega arith)
    ]
