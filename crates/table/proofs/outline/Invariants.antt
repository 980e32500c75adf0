-- `outline` meets its contract. The loop keeps `Reach`: reading goes on from what has been seen, which the cursor and the arrays track; the measure is the bytes left.
-- Assumes nothing.
use Prim.Native.Nat.{◌-◌}
use lib.ListN.{length}
use Rattle.command.specs.Names.{wanted_of}
use Rattle.table.specs.Answer.{Reach}
use Rattle.table.proofs.outline.Given as goal

abbrev pub invariant-loop-c : goal.invariant-loop-c
invariant-loop-c l = Reach (wanted_of l.wanted) l.table l.c l.named.needed l.named.changed l.named.affected l.edges l.marks

abbrev pub decreases-loop-c : goal.decreases-loop-c
decreases-loop-c l = length l.table - l.c.at
