-- `put_actions` meets its contract. The invariant: the moves before `b` are written. Assumes nothing.
use Rattle.reader.specs.Written.{read_task}
use Rattle.pddl_sum.specs.Names.{EachWriting}
use Rattle.pddl_text.specs.Documents.{action_at}
use Rattle.pddl_text.proofs.put_actions.Given as goal

abbrev pub invariant-loop-b : goal.invariant-loop-b
invariant-loop-b l = EachWriting (action_at (read_task l.blocks.table.now)) l.blocks.moves l.b l.initial.out l.at l.out l.to
