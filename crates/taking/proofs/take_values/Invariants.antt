-- The invariant of `take_values`: in every reading, the moves for the variables below `v` are taken. Assumes nothing.
use Rattle.taking.specs.Descending.{ValuesTakeable, ValuesTaken}
use Rattle.taking.proofs.take_values.Given as goal

abbrev pub invariant-loop-v : goal.invariant-loop-v
invariant-loop-v l =
    (x : ValuesTakeable l.blocks.table.now l.blocks.marks.now l.below.used.now l.below.row.now l.below.lows.now l.start l.blocks.moves l.blocks.vars l.wanted l.initial.wants l.initial.counts)
    → ValuesTaken x l.v l.wants l.counts
