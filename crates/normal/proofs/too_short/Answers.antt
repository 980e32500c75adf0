-- `too_short` meets its contract: by the bound, or by the length that a walk over no bytes gives. Assumes nothing.
use native.Mathlib.Omega.{arith}
use mathlib.Core.Path.{sym}
use borrow.Author.Tests.{le-ltb}
use Rattle.reader.specs.Written.{head_source, head_heads}
use Rattle.normal.specs.Tables.{normal_twice}
use Rattle.normal.proofs.too_short.Goals as goal

pub returns-then-room-blocks : goal.returns-then-room-blocks
returns-then-room-blocks c = sym (le-ltb c.args.room _ (omega (arith, normal_twice c.requires, c.if-room-blocks.true)))

pub put_table-requires : goal.put_table-requires
put_table-requires c = let h = c.requires in (head_source h, head_heads h)
