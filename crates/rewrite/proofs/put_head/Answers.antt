-- `put_head` meets its contract: two stores side by side. Assumes nothing.
use Rattle.output.specs.Writing.{written_join}
use Rattle.rewrite.proofs.put_head.Goals as goal

pub returns : goal.returns
returns c = written_join c.put_pair-next.ensures c.put_pair.ensures
