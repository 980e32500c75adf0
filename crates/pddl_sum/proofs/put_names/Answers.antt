-- `put_names` meets its contract, name by name. Assumes nothing.
use Rattle.pddl_sum.specs.Names.{name_text, each_start, each_room, each_step, each_end}
use Rattle.pddl_sum.proofs.put_names.Goals as goal

pub loop-i-init : goal.loop-i-init
loop-i-init c = let a = c.args in each_start (name_text a.word.now) a.n a.out.now a.at

pub put_name-to-requires : goal.put_name-to-requires
put_name-to-requires c = each_room c.loop-i.invariant c.loop-i-test.true c.requires

pub loop-i-preserved : goal.loop-i-preserved
loop-i-preserved c = each_step c.loop-i.invariant c.loop-i-test.true c.put_name-to.ensures

pub returns : goal.returns
returns c = each_end c.loop-i.invariant c.loop-i-test.false
