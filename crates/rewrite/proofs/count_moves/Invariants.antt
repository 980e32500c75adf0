-- `count_moves` meets its contract. The invariant: the moves before `b` are counted. Assumes nothing.
use Rattle.rewrite.specs.Stored.{stored_task, Counting}
use Rattle.rewrite.proofs.count_moves.Given as goal

abbrev pub invariant-loop-b : goal.invariant-loop-b
invariant-loop-b l = Counting (stored_task l.blocks.table.now).moves l.b l.kept
