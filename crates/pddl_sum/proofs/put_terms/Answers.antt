-- `put_terms` meets its contract, term by term. Assumes nothing.
use Rattle.std.proofs.Common.{◌+◌, ◌*◌, ◌-◌}
use native.Mathlib.Omega.{arith}
use Rattle.block.specs.Sums.{few_terms}
use Rattle.block.specs.Terms.{term_of, sum_behind}
use Rattle.output.specs.Writing.{writing_rest, writing_room, writing_step}
use Rattle.pddl_sum.specs.Sums.{term_text, terms_start, terms_next, terms_done}
use Rattle.pddl_sum.proofs.put_terms.Goals as goal

pub loop-i-init : goal.loop-i-init
loop-i-init c = let t = c.args.terms.now in terms_start t.part.now t.from t.count c.args.out.now c.args.at

pub overflow_mul-i : goal.overflow_mul-i
overflow_mul-i c = omega (arith, few_terms c.requires.0.terms)

pub overflow_add-terms : goal.overflow_add-terms
overflow_add-terms c = omega (arith, (sum_behind c.loop-i.i c.requires.0 c.loop-i.auto.i-end).terms.bytes.within)

pub put_term-to-requires : goal.put_term-to-requires
put_term-to-requires c =
    let t = c.args.terms.now in
    let l = c.loop-i in (
      record { n = t.count - l.i; sum = sum_behind l.i c.requires.0 l.auto.i-end; some = omega arith },
      writing_room (term_text (term_of t.part.now (t.from + 4 * l.i))) _ (writing_rest l.invariant (terms_next t.part.now t.from t.count l.i c.loop-i-test.true)) c.requires.1,
    )

pub loop-i-preserved : goal.loop-i-preserved
loop-i-preserved c =
    let t = c.args.terms.now in
    let l = c.loop-i in
    writing_step (writing_rest l.invariant (terms_next t.part.now t.from t.count l.i c.loop-i-test.true)) c.put_term-to.ensures

pub returns : goal.returns
returns c = let t = c.args.terms.now in terms_done t.part.now t.from t.count c.loop-i.i c.loop-i-test.false c.loop-i.invariant
