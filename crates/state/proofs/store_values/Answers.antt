-- `store_values` meets its contract. The invariant: the values passed are stored. Assumes nothing.
use Prim.Native.Nat.{◌+◌, ◌*◌, ◌≤◌}
use native.Mathlib.Omega.{arith}
use lib.IntN.{pos}
use lib.ListN.{length, get_or}
use Rattle.integer.specs.Linear.{back}
use Rattle.state.specs.Storing.{state_in, values_start, values_length, values_step, values_end}
use Rattle.state.proofs.store_values.Goals as goal

pub loop-v-init : goal.loop-v-init
loop-v-init c = values_start _ _ _ _

pub put_i32-requires : goal.put_i32-requires
put_i32-requires c =
    let l = c.loop-v in
    let room : c.args.props + 4 * l.v + 4 ≤ length l.out =
    omega (arith, values_length _ _ _ _ c.requires.room l.invariant) in
    (room, rw (back (get_or c.args.values.now l.v (pos 0)) c.put_i32-arg-in-loop-v-1.given) (omega (arith, c.requires.small l.v (omega arith))))

pub loop-v-preserved : goal.loop-v-preserved
loop-v-preserved c =
    let l = c.loop-v in
    values_step _ _ _ _ c.requires.room l.invariant (omega arith)
    (back (get_or c.args.values.now l.v (pos 0)) c.put_i32-arg-in-loop-v-1.given)
    c.put_i32.ensures

pub returns : goal.returns
unfolding state_in
returns c = values_end _ _ _ _ c.loop-v.invariant (omega arith)
