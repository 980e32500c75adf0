-- `minute_at` meets its contract. Assumes nothing.
use Rattle.placement.specs.Day.{minute_at}
use Rattle.closure.proofs.minute_at.Goals as goal

pub returns : goal.returns
unfolding minute_at
returns c = c.unsigned_at.ensures
