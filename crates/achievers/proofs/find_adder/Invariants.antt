-- The invariant of `find_adder`: no usable move before `b` adds the proposition. Assumes nothing.
use Rattle.model.specs.Theorems.Laws.Searching.{Searched}
use Rattle.achievers.specs.Search.{Searchable, adds_at}
use Rattle.achievers.proofs.find_adder.Given as goal

abbrev pub invariant-loop-b : goal.invariant-loop-b
invariant-loop-b l =
    (x : Searchable l.blocks.table.now l.blocks.marks.now l.used l.blocks.moves) → Searched (adds_at x.task x.over l.p) l.blocks.moves l.b
