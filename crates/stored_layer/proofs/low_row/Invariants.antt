-- `low_row` meets its contract. The invariant: the first `v` low values are made. Assumes nothing.
use lib.IntN.{pos}
use Rattle.stored_layer.specs.View.{low_at, Filled}
use Rattle.stored_layer.proofs.low_row.Given as goal

abbrev pub invariant-loop-v : goal.invariant-loop-v
invariant-loop-v l = Filled (pos 0) (low_at l.row l.start) l.v 32 l.lows
