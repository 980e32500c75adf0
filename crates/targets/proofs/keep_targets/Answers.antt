-- `keep_targets` meets its contract. Assumes nothing.
use native.Mathlib.Omega.{arith}
use mathlib.Core.Path.{ap, ◌∙◌}
use lib.IntN.{pos}
use lib.ListN.{get_or}
use Rattle.integer.specs.Linear.{back}
use Rattle.targets.specs.Carrying.{mapped_none, mapped_step, mapped_end, kept_by, kept_at}
use Rattle.targets.proofs.keep_targets.Goals as goal

pub loop-v-init : goal.loop-v-init
loop-v-init c = λ f r. mapped_none

pub loop-v-preserved : goal.loop-v-preserved
unfolding kept_at
loop-v-preserved c =
    let v = c.loop-v.v in
    let z = get_or c.loop-v.target v (pos 0) in
    let y = get_or c.args.row.now v (pos 0) in
    λ f r.
    mapped_step (omega arith) (c.loop-v.invariant f r)
    (back c.kept_target.result c.kept_target.type_inv
    ∙ c.kept_target.ensures (f v) (back y c.value-1.given ∙ (r.each v c.loop-v-test.true).is)
    ∙ ap (kept_by (f v)) (back z c.old-1.given))

pub returns : goal.returns
returns c f r = mapped_end c.loop-v.auto.v-end c.loop-v-test.false (c.loop-v.invariant f r)
