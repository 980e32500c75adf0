-- `is_named` meets its contract.
-- Assumes nothing.
use Prim.Native.Nat.{ℕ}
use mathlib.Core.Path.{ap}
use lib.Dec.{eqb}
use lib.ListN.{get_or}
use Rattle.cursor.proofs.is_named.Goals as goal

pub returns : goal.returns
returns c = ap (λ (p : ℕ). eqb (get_or c.args.by.now p 0) c.args.stamp) c.byte-prop.ensures.0
