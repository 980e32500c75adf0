-- `load_values` meets its contract. The invariant: the values passed are written. Assumes nothing.
use native.Mathlib.Omega.{arith}
use mathlib.Core.Path.{◌∙◌}
use Rattle.integer.specs.Linear.{back}
use Rattle.state.specs.Loading.{written_start, written_length_lem, written_step, written_end, value_read}
use Rattle.state.proofs.load_values.Goals as goal

pub loop-v-init : goal.loop-v-init
loop-v-init c = written_start

pub bounds-values-v : goal.bounds-values-v
bounds-values-v c = omega (arith, written_length_lem c.requires.1 c.loop-v.invariant)

pub loop-v-preserved : goal.loop-v-preserved
loop-v-preserved c =
    let a = c.args in
    let l = c.loop-v in
    rw (back c.i32_at.result c.i32_at.type_inv)
    (written_step c.requires.1 l.invariant (omega arith)
    (c.i32_at.ensures.0 ∙ value_read a.props a.state.now l.v))

pub returns : goal.returns
returns c = written_end c.loop-v.invariant (omega arith)
