-- `put_block` meets its contract: the command, then the items. Assumes nothing.
use Rattle.output.specs.Writing.{written_join}
use Rattle.normal_block.proofs.put_block.Goals as goal

pub returns : goal.returns
returns c b r = written_join c.put_byte-next.ensures (c.put_items.ensures b r)
