-- `make_moves` meets its contract. The invariant: the entries so far are made, and the arrays hold the state after them. Assumes nothing.
use Rattle.transition.specs.Entries.{Making}
use Rattle.transition.proofs.make_moves.Given as goal

abbrev pub invariant-loop-index : goal.invariant-loop-index
invariant-loop-index l = Making l.blocks.table.now l.blocks.marks.now l.blocks.props l.blocks.vars l.blocks.moves l.list l.initial.state.has l.initial.state.values l.initial.next.has l.initial.next.values l.index l.state.has l.state.values l.next.has l.next.values
