-- `run` meets its contract. The invariant: in every reading, the items that are left decide, and those passed are taken in. The measure is
-- what is left of the part. Assumes nothing.
use Prim.Native.Nat.{◌-◌}
use lib.ListN.{length}
use Rattle.block.specs.Blocks.{Walk}
use Rattle.block.specs.Streams.{Over, Asked}
use Rattle.real_move.specs.Walking.{Going}
use Rattle.real_move.proofs.run.Given as goal

abbrev pub invariant-loop-from : goal.invariant-loop-from
invariant-loop-from l = Walk l.part (Over l.state.has l.state.values) Asked l.from × Going l.part l.state.values l.initial.next.has l.initial.next.values l.from l.next.has l.next.values

abbrev pub decreases-loop-from : goal.decreases-loop-from
decreases-loop-from l = length l.part - l.from
