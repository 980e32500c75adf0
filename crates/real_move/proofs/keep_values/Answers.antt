-- `keep_values` meets its contract: the first value out of range ends it, the others are copied. Assumes nothing.
use Rattle.std.specs.Prelude.{refl, pos, get_or}
use Rattle.std.proofs.lemmas.Bool.{cases_eq}
use Rattle.std.proofs.lemmas.Grind.{common_steps}
use Rattle.std.proofs.Common.{arith, sym, ◌∙◌, get_or-set_same, not-suc-le-zero}
use Rattle.model.specs.Limits.{paper}
use Rattle.model.specs.Lists.{all_below}
use Rattle.model.specs.StateTable.{value_in_range}
use Rattle.integer.specs.Linear.{back}
use Rattle.real_move.specs.Values.{all_in_range, all_next, all_fails}
use Rattle.real_move.proofs.keep_values.Goals as goal

pub loop-v-init : goal.loop-v-init
unfolding all_in_range all_below
loop-v-init c = (refl, λ j h. absurd (not-suc-le-zero h))

pub returns-then-not-in_range : goal.returns-then-not-in_range
unfolding all_in_range
returns-then-not-in_range c =
    let a = c.args in
    let x = get_or a.next.now c.loop-v.v (pos 0) in
    record {
      test =
          sym
          (all_fails (λ v. value_in_range paper (get_or a.next.now v (pos 0))) a.vars c.loop-v.v (omega arith)
          (sym (rw (back x (omega arith)) at c.in_range.ensures) ∙ c.if-not-in_range.true));
      kept = λ e. absurd (cc);
    }

pub loop-v-preserved : goal.loop-v-preserved
unfolding all_in_range
loop-v-preserved c =
    let a = c.args in
    let x = get_or a.next.now c.loop-v.v (pos 0) in (
      all_next (λ v. value_in_range paper (get_or a.next.now v (pos 0))) c.loop-v.v c.loop-v.invariant.0
          (sym (rw (back x (omega arith)) at c.in_range.ensures) ∙ c.if-not-in_range.false),
      λ j h. grind (arith, common_steps, get_or-set_same, cases_eq j c.loop-v.v),
    )
