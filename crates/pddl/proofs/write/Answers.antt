-- `write` meets its contract: 13 before a byte is written. Assumes nothing.
use Rattle.output.specs.Answers.{answered_thirteen, answered_put}
use Rattle.pddl.proofs.write.Goals as goal

pub returns-then-too_short : goal.returns-then-too_short
returns-then-too_short c = rw c.at.ensures (answered_thirteen c.too_short.ensures c.if-too_short.true)

pub returns : goal.returns
returns c = answered_put c.too_short.ensures c.if-too_short.false c.put_text.ensures
