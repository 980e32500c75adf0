-- `recount` meets its contract. Assumes nothing.
use Rattle.taking.specs.Taking.{counted_at}
use Rattle.taking.proofs.recount.Goals as goal

pub returns : goal.returns
unfolding counted_at
returns c = cc
