-- `first_window` meets its contract. The invariant: no window before `i` is at fault, and `before` is when the last of them shuts.
-- Assumes nothing.
use Rattle.std.proofs.Common.{length}
use Rattle.model.specs.Theorems.Laws.Searching.{Searched}
use Rattle.placement.specs.Day.{paper_day, pieces, wrong_window}
use Rattle.closure.specs.Checking.{ShutBefore}
use Rattle.closure.proofs.first_window.Given as goal

abbrev pub invariant-loop-i : goal.invariant-loop-i
invariant-loop-i l = Searched (wrong_window paper_day l.windows) (pieces 8 (length l.windows)) l.i × ShutBefore l.windows l.i l.before
