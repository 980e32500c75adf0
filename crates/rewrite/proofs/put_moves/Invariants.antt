-- `put_moves` meets its contract. The invariant: the moves before `b` are written. Assumes nothing.
use Rattle.rewrite.specs.Stored.{stored_task, MovesWriting}
use Rattle.rewrite.proofs.put_moves.Given as goal

abbrev pub invariant-loop-b : goal.invariant-loop-b
invariant-loop-b l = MovesWriting (stored_task l.blocks.table.now).moves l.b l.initial.out l.start l.out l.to
