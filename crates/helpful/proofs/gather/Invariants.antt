-- `gather` meets its contract. The invariant: in every reading, the set is that of the moves from `b` on, the lowest bit for `b`.
-- Assumes nothing.
use mathlib.Core.Path.{◌≡◌}
use Rattle.helpful.specs.Sets.{Gatherable, set_from}
use Rattle.helpful.proofs.gather.Given as goal

abbrev pub invariant-loop-b : goal.invariant-loop-b
invariant-loop-b l = (x : Gatherable l.blocks.table.now l.blocks.marks.now l.wanted l.targets l.layers l.row l.blocks.props l.blocks.moves) → l.set ≡ set_from x l.b
