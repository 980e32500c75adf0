-- `write_plan` meets its contract. The invariant: in every reading, the wants are those of layer `t`, and the records of the layers
-- from `t` on are written, from `at` on. Assumes nothing.
use Rattle.passes.specs.Passes.{Writable, Backwards}
use Rattle.passes.proofs.write_plan.Given as goal

abbrev pub invariant-loop-t : goal.invariant-loop-t
invariant-loop-t l = (x : Writable l.blocks.table.now l.blocks.marks.now l.layers l.start l.blocks.props l.blocks.vars l.blocks.moves l.m l.initial.wants l.records l.initial.out) → Backwards x l.t l.wants l.at l.out
