-- `first_duration` meets its contract. The invariant: no entry before `i` is at fault. Assumes nothing.
use Rattle.std.proofs.Common.{length}
use Rattle.model.specs.Theorems.Laws.Searching.{Searched}
use Rattle.placement.specs.Day.{paper_day, pieces, wrong_duration}
use Rattle.closure.proofs.first_duration.Given as goal

abbrev pub invariant-loop-i : goal.invariant-loop-i
invariant-loop-i l = Searched (wrong_duration paper_day l.durations) (pieces 4 (length l.durations)) l.i
