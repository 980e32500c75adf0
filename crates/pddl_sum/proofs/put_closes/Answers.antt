-- `put_closes` meets its contract, bracket by bracket. Assumes nothing.
use Rattle.model.specs.Ascii.{ascii}
use Rattle.output.specs.Writing.{writing_rest, writing_step}
use Rattle.pddl_sum.specs.Sums.{closes_start, closes_next, closes_done}
use Rattle.pddl_sum.proofs.put_closes.Goals as goal

pub loop-init : goal.loop-init
loop-init c = let a = c.args in closes_start a.n a.out.now a.at

pub loop-preserved : goal.loop-preserved
unfolding ascii
loop-preserved c = writing_step (writing_rest c.loop.invariant (closes_next c.args.n c.loop.counter c.loop-test.true)) c.put_byte-to.ensures

pub returns : goal.returns
returns c = closes_done c.args.n c.loop.counter c.loop-test.false c.loop.invariant
