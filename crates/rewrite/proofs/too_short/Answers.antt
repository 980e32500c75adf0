-- `too_short` meets its contract: by the bound, or by the length that a walk over no bytes gives. Assumes nothing.
use native.Mathlib.Omega.{arith}
use mathlib.Core.Path.{sym}
use borrow.Author.Tests.{le-ltb}
use Rattle.rewrite.specs.Stored.{not_longer}
use Rattle.rewrite.proofs.too_short.Goals as goal

pub returns-then-room-blocks : goal.returns-then-room-blocks
returns-then-room-blocks c = sym (le-ltb c.args.room _ (omega (arith, not_longer c.requires.0, c.if-room-blocks.true)))
