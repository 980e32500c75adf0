-- `put_kept` meets its contract: the part whole, or nothing. Assumes nothing.
use Rattle.rewrite.specs.Active.{kept_not, kept_whole}
use Rattle.rewrite.proofs.put_kept.Goals as goal

pub returns-then-not-is_active : goal.returns-then-not-is_active
returns-then-not-is_active c = kept_not c.is_active.ensures _ _ c.if-not-is_active.true

pub returns : goal.returns
returns c = kept_whole c.is_active.ensures c.if-not-is_active.false c.put_bytes.ensures
