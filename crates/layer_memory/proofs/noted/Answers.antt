-- `noted` meets its contract. Assumes nothing.
use native.Mathlib.Omega.{arith}
use mathlib.Core.Path.{◌∙◌}
use lib.IntN.{pos}
use Rattle.integer.specs.Linear.{back, back_small}
use Rattle.layer_memory.specs.Filling.{noted_fills, noted_full, noted_unmarked}
use Rattle.layer_memory.proofs.noted.Goals as goal
use Rattle.layer_memory.proofs.noted.Goals.{else-has-via-then-has+else-entry-lt0, else-has-via-else-has}

pub returns-then-entry-lt0 : goal.returns-then-entry-lt0
returns-then-entry-lt0 c =
    back_small (pos c.args.t) (omega arith)
    ∙ noted_fills c.args.entry c.args.has c.args.t c.if-has.true (rw (back c.args.entry c.ranges.entry.sfits) at c.if-entry-lt0.true)

pub returns-else-has : goal.returns-else-has
returns-else-has c =
    back c.args.entry c.ranges.entry.sfits
    ∙ elim c.else-has.branch [
      | else-has-via-then-has+else-entry-lt0 w ↦ noted_full c.args.entry c.args.has c.args.t (rw (back c.args.entry c.ranges.entry.sfits) at w.if-entry-lt0.false)
      | else-has-via-else-has w ↦ noted_unmarked c.args.entry c.args.has c.args.t w.if-has.false
    ]
