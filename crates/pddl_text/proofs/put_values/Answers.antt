-- `put_values` meets its contract, value by value. Assumes nothing.
use native.Mathlib.Omega.{arith}
use Rattle.model.specs.StateTable.{state_of}
use Rattle.pddl_text.specs.Documents.{value_row}
use Rattle.pddl_sum.specs.Names.{each_start, each_room, each_step, each_end}
use Rattle.pddl_text.proofs.put_values.Goals as goal

pub loop-v-init : goal.loop-v-init
loop-v-init c = let a = c.args in each_start (value_row (state_of a.props a.state.now)) a.vars a.out.now a.at

pub put_value-to-requires : goal.put_value-to-requires
put_value-to-requires c = (omega arith, omega arith, each_room c.loop-v.invariant c.loop-v-test.true c.requires.2)

pub loop-v-preserved : goal.loop-v-preserved
loop-v-preserved c = each_step c.loop-v.invariant c.loop-v-test.true c.put_value-to.ensures

pub returns : goal.returns
returns c = each_end c.loop-v.invariant c.loop-v-test.false
