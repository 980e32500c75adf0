-- `put_u64` meets its contract: `put_unsigned` at eight bytes.
-- Assumes nothing.
use Rattle.integer.proofs.put_u64.Goals as goal

pub put_unsigned-requires : goal.put_unsigned-requires
put_unsigned-requires c = c.requires

pub returns : goal.returns
returns c = c.put_unsigned.ensures
