-- `put_names` meets its contract. The invariant: the names before `i` are written. Assumes nothing.
use Rattle.pddl_sum.specs.Names.{name_text, EachWriting}
use Rattle.pddl_sum.proofs.put_names.Given as goal

abbrev pub invariant-loop-i : goal.invariant-loop-i
invariant-loop-i l = EachWriting (name_text l.word) l.n l.i l.initial.out l.at l.out l.to
