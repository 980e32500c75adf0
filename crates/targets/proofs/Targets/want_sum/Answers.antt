-- `Targets::want_sum` meets its contract: the targets are raised where they stand. Assumes nothing.
use Rattle.integer.specs.Linear.{back}
use Rattle.targets.proofs.Targets.want_sum.Goals as goal

pub raise_sum-requires : goal.raise_sum-requires
raise_sum-requires c = rw (back c.args.c c.ranges.c.sfits) (record { props = c.args.self.props; it = c.requires.0 }, c.requires.1)

pub returns : goal.returns
returns c x = rw (back c.args.c c.ranges.c.sfits) at (c.raise_sum.ensures c.args.self.props x)
