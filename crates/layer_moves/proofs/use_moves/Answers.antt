-- `use_moves` meets its contract. The invariant: the moves passed are taken in. Assumes nothing.
use Rattle.layer_moves.specs.UsingMoves.{using_start, using_next, using_end, ready_part, ready_takeable}
use native.Mathlib.Omega.{arith}
use Rattle.layer_moves.proofs.use_moves.Goals as goal

pub loop-b-init : goal.loop-b-init
loop-b-init c = using_start

pub part-part-requires : goal.part-part-requires
part-part-requires c = ready_part c.requires c.loop-b-test.true

pub bounds-used-b : goal.bounds-used-b
bounds-used-b c = omega (arith, c.requires.used_room, c.loop-b.invariant.same_used)

pub take_in-requires : goal.take_in-requires
take_in-requires c =
    let i = c.loop-b.invariant in
    ready_takeable c.requires c.loop-b-test.true c.part-part.ensures.0 i.same_flags i.same_values

pub bounds-used-b-in-loop-b : goal.bounds-used-b-in-loop-b
bounds-used-b-in-loop-b c = omega (arith, c.requires.used_room, c.loop-b.invariant.same_used)

pub loop-b-preserved : goal.loop-b-preserved
loop-b-preserved c =
    let t = c.take_in in
    using_next c.loop-b.invariant c.loop-b-test.true c.requires.used_room c.part-part.ensures.0 t.ensures

pub returns : goal.returns
returns c = using_end c.loop-b.invariant (omega arith) c.requires.used_room
