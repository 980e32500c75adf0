-- `use_moves` meets its contract. The invariant: the moves passed are taken in. Assumes nothing.
use Rattle.layer_moves.specs.UsingMoves.{UsingMoves}
use Rattle.layer_moves.proofs.use_moves.Given as goal

abbrev pub invariant-loop-b : goal.invariant-loop-b
invariant-loop-b l = UsingMoves l.blocks.table.now l.blocks.marks.now l.blocks.moves l.layer.has l.layer.row l.initial.next.has l.initial.next.row l.initial.used l.b l.next.has l.next.row l.used
