-- `put_sum` meets its contract. The invariant: what is left to be written are the terms from term `i` on. Assumes nothing.
use native.Mathlib.Omega.{arith}
use mathlib.Core.Path.{ap, ◌∙◌}
use Rattle.integer.specs.Linear.{back}
use Rattle.block.specs.Sums.{few_terms}
use Rattle.output.specs.Writing.{writing_behind}
use Rattle.normal_condition.specs.Signs.{negate_if}
use Rattle.block.specs.Terms.{sum_behind, sum_term, term_variable, term_weighs}
use Rattle.normal_condition.specs.Sums.{sum_start, sum_step, sum_done, sum_short}
use Rattle.normal_condition.proofs.put_sum.Goals as goal

pub loop-i-init : goal.loop-i-init
loop-i-init c =
    let a = c.args in
    sum_start a.negated a.terms.now.part.now a.terms.now.from a.terms.now.count a.out.now a.at

pub overflow_add-term : goal.overflow_add-term
overflow_add-term c = omega (arith, (sum_behind c.loop-i.i c.requires.0 c.loop-i.auto.i-end).terms.bytes.within)

pub variable-v-requires : goal.variable-v-requires
variable-v-requires c = sum_term (sum_behind c.loop-i.i c.requires.0 c.loop-i.auto.i-end) (omega arith)

pub weight-requires : goal.weight-requires
weight-requires c = sum_term (sum_behind c.loop-i.i c.requires.0 c.loop-i.auto.i-end) (omega arith)

pub returns : goal.returns
returns c =
    let t = c.args.terms.now in
    sum_done c.args.negated t.part.now t.from t.count c.loop-i.i c.loop-i-test.false c.loop-i.invariant

pub overflow_mul-term : goal.overflow_mul-term
overflow_mul-term c = omega (arith, few_terms c.requires.0.terms)

pub put_kept-to-requires : goal.put_kept-to-requires
put_kept-to-requires c =
    let behind = sum_behind c.loop-i.i c.requires.0 c.loop-i.auto.i-end in
    let told = rw (back c.weight.result c.weight.type_inv) at c.negate_if-w.ensures in
    rw (back c.negate_if-w.result c.negate_if-w.type_inv) (
      omega (arith, writing_behind c.loop-i.invariant, sum_short c.args.negated c.requires.0, c.requires.1),
      omega (arith, (term_variable behind (omega arith) c.variable-v.ensures).1),
      omega (arith, told.1, c.weight.ensures.small),
    )

pub loop-i-preserved : goal.loop-i-preserved
loop-i-preserved c =
    let t = c.args.terms.now in
    let behind = sum_behind c.loop-i.i c.requires.0 c.loop-i.auto.i-end in
    let told = rw (back c.weight.result c.weight.type_inv) at c.negate_if-w.ensures.0 in
    let stored = rw (back c.negate_if-w.result c.negate_if-w.type_inv) at c.put_kept-to.ensures in
    sum_step c.args.negated t.part.now t.from t.count c.loop-i.i c.loop-i-test.true c.loop-i.invariant
    (term_variable behind (omega arith) c.variable-v.ensures).0
    (told ∙ ap (negate_if c.args.negated) (term_weighs behind (omega arith) c.weight.ensures))
    stored
