-- `reaches` meets its contract. Assumes nothing.
use Rattle.integer.specs.Linear.{back}
use Rattle.block.specs.Sums.{reaches_encoded}
use Rattle.block.proofs.reaches.Goals as goal

pub returns : goal.returns
returns c x e =
    rw (back c.args.c c.ranges.c.sfits, back c.args.value c.ranges.value.sfits) (reaches_encoded x c.args.c e c.ranges.c.sfits)
