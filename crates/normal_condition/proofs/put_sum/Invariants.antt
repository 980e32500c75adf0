-- `put_sum` meets its contract. The invariant: what is left to be written are the terms from term `i` on. Assumes nothing.
use Prim.Native.Nat.{◌+◌, ◌*◌, ◌-◌}
use Rattle.output.specs.Writing.{Writing}
use Rattle.normal_condition.specs.Signs.{sum_bytes}
use Rattle.block.specs.Terms.{terms_at}
use Rattle.normal_condition.proofs.put_sum.Given as goal

abbrev pub invariant-loop-i : goal.invariant-loop-i
invariant-loop-i l =
    Writing l.initial.out l.at (sum_bytes l.negated (terms_at l.terms.part.now l.terms.from l.terms.count)) l.out l.to
    (sum_bytes l.negated (terms_at l.terms.part.now (l.terms.from + 4 * l.i) (l.terms.count - l.i)))
