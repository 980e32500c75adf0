-- `unsigned_at` meets its contract. The invariant: `n` is the number in the bytes passed.
-- Assumes nothing.
use mathlib.Core.Path.{◌≡◌}
use Prim.Native.Nat.{◌^◌, ◌<◌}
use lib.ListN.{take, drop}
use Rattle.integer.specs.BigEndian.{unsigned}
use Rattle.integer.proofs.unsigned_at.Given as goal

abbrev pub invariant-loop-i : goal.invariant-loop-i
invariant-loop-i l = (l.n ≡ unsigned (take l.i (drop l.at l.s))) × (l.n < 256 ^ l.i)
