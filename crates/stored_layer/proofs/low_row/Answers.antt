-- `low_row` meets its contract. The invariant: the first `v` low values are made. Assumes nothing.
use native.Mathlib.Omega.{arith}
use mathlib.Core.Path.{ap₂, ◌∙◌}
use lib.IntN.{pos}
use lib.ListN.{get_or}
use Rattle.integer.specs.Linear.{back}
use Rattle.stored_layer.specs.View.{low_by, low_at, filled_none, filled_step, filled_end}
use Rattle.stored_layer.proofs.low_row.Goals as goal

pub loop-v-init : goal.loop-v-init
loop-v-init c = filled_none c.requires.3

pub loop-v-preserved : goal.loop-v-preserved
unfolding low_at
loop-v-preserved c =
    let a = c.args in
    let l = c.loop-v in
    let x = get_or a.row.now l.v (pos 0) in
    let y = get_or a.start.now l.v (pos 0) in
    filled_step (omega arith) l.invariant (back c.low.result c.low.type_inv ∙ c.low.ensures ∙ ap₂ low_by (back x (omega arith)) (back y (omega arith)))

pub returns : goal.returns
returns c = filled_end (omega arith) (omega arith) c.loop-v.invariant
