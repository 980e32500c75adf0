-- `count_kept` meets its contract. Assumes nothing.
use Rattle.rewrite.specs.Active.{count_one, count_none}
use Rattle.rewrite.proofs.count_kept.Goals as goal

pub returns-then-is_active : goal.returns-then-is_active
returns-then-is_active c = count_one c.is_active.ensures c.if-is_active.true

pub returns-else-is_active : goal.returns-else-is_active
returns-else-is_active c = count_none c.is_active.ensures c.if-is_active.false
