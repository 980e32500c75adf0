-- The invariant of `take_props`: in every reading, the moves for the propositions below `p` are taken. Assumes nothing.
use Rattle.taking.specs.Descending.{PropsTakeable, PropsTaken}
use Rattle.taking.proofs.take_props.Given as goal

abbrev pub invariant-loop-p : goal.invariant-loop-p
invariant-loop-p l =
    (x : PropsTakeable l.blocks.table.now l.blocks.marks.now l.below.has.now l.below.used.now l.below.row.now l.below.lows.now l.blocks.moves l.blocks.props l.wanted l.initial.wants)
    → PropsTaken x l.p l.wants l.counts
