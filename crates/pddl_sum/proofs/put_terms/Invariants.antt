-- `put_terms` meets its contract. The invariant: what is left to be written are the terms from term `i` on. Assumes nothing.
use Rattle.std.proofs.Common.{◌+◌, ◌*◌, ◌-◌}
use Rattle.block.specs.Terms.{terms_at}
use Rattle.output.specs.Writing.{Writing}
use Rattle.pddl_sum.specs.Sums.{term_texts}
use Rattle.pddl_sum.proofs.put_terms.Given as goal

abbrev pub invariant-loop-i : goal.invariant-loop-i
invariant-loop-i l =
    let t = l.terms in
    Writing l.initial.out l.at (term_texts (terms_at t.part.now t.from t.count)) l.out l.to
    (term_texts (terms_at t.part.now (t.from + 4 * l.i) (t.count - l.i)))
