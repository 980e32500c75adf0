-- `put_equal` meets its contract: two conditions side by side. Assumes nothing.
use native.Mathlib.Omega.{arith}
use mathlib.Core.Path.{sym}
use mathlib.Core.Bool.{false}
use mathlib.Core.List.{[], ◌∷◌}
use lib.IntN.{neg_ℤ}
use Rattle.integer.specs.Linear.{abs_neg, back}
use Rattle.model.specs.NormalForm.{negated, least, normal_condition}
use Rattle.output.specs.Writing.{written_join, written_same}
use Rattle.block.specs.Terms.{terms_at}
use Rattle.normal_condition.specs.Signs.{negate_sum_if}
use Rattle.normal_condition.specs.Conditions.{items_append, condition_long}
use Rattle.normal_condition.proofs.Signed.{neg_back}
use Rattle.normal_condition.proofs.put_equal.Goals as goal

pub put_condition-requires : goal.put_condition-requires
put_condition-requires c =
    let first = rw (back c.args.c c.ranges.c.sfits) at c.put_condition-next.ensures in
    rw (neg_back c.args.c (omega (arith, c.requires.2))) (
      c.requires.0,
      omega (arith, c.requires.1, first.behind, condition_long false c.requires.0 c.args.c),
      omega (arith, abs_neg c.args.c, c.requires.2),
    )

pub returns : goal.returns
unfolding normal_condition negate_sum_if
returns c =
    let a = c.args in
    let ts = terms_at a.terms.now.part.now a.terms.now.from a.terms.now.count in
    let first = rw (back a.c c.ranges.c.sfits) at c.put_condition-next.ensures in
    let second = rw (neg_back a.c (omega (arith, c.requires.2))) at c.put_condition.ensures in
    written_same (written_join first second) (sym (items_append (least ts a.c ∷ []) (least (negated ts) (neg_ℤ a.c) ∷ [])))
