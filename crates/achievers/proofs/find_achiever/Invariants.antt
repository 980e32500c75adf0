-- The outer invariant of `find_achiever`: no usable move before `index` achieves the target; the inner one: in every reading, the items of
-- the move that are left decide. The measure is what is left of its part. Assumes nothing.
use Prim.Native.Nat.{◌-◌}
use lib.ListN.{length}
use Rattle.model.specs.Task.{effect_on}
use Rattle.block.specs.Blocks.{Walk}
use Rattle.model.specs.Theorems.Laws.Searching.{Searched}
use Rattle.achievers.specs.Search.{Achievable, achieves_at, Alone}
use Rattle.achievers.proofs.find_achiever.Given as goal

abbrev pub invariant-moves : goal.invariant-moves
invariant-moves l =
    (x : Achievable l.blocks.table.now l.blocks.marks.now l.used l.row l.blocks.moves)
    → Searched (achieves_at x.search.task x.search.over l.v l.target) l.blocks.moves l.index

abbrev pub invariant-loop-at : goal.invariant-loop-at
invariant-loop-at l = Walk l.part Alone (λ (s : Unit {0}). effect_on l.v) l.at

abbrev pub decreases-loop-at : goal.decreases-loop-at
decreases-loop-at l = length l.part - l.at
