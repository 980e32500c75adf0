-- `load_signed` meets its contract. The invariant: the signed variables of the values passed are written. Assumes nothing.
use Prim.Native.Nat.{◌<◌, ◌^◌}
use native.Mathlib.Omega.{arith}
use mathlib.Core.Path.{◌≡◌, ◌∙◌, ap}
use lib.IntN.{neg_ℤ, nat_abs}
use lib.ListN.{length-set}
use Rattle.integer.specs.Linear.{zero_sub, abs_neg, back, back_small}
use Rattle.model.specs.StateTable.{state_of}
use Rattle.state.specs.Loading.{written_start, written_length_lem, written_end, value_read, signed_step}
use Rattle.state.proofs.load_signed.Goals as goal

pub loop-v-init : goal.loop-v-init
loop-v-init c = written_start

pub bounds-values-v : goal.bounds-values-v
bounds-values-v c = omega (arith, written_length_lem c.requires.1 c.loop-v.invariant)

pub bounds-values-v-in-loop-v : goal.bounds-values-v-in-loop-v
bounds-values-v-in-loop-v c =
    rw length-set
    (omega (arith, written_length_lem c.requires.1 c.loop-v.invariant))

pub loop-v-preserved : goal.loop-v-preserved
unfolding state_of
loop-v-preserved c =
    let a = c.args in
    let l = c.loop-v in
    let z = c.i32_at-x.result in
    let e : z ≡ (state_of a.props a.state.now).val l.v = c.i32_at-x.ensures.0 ∙ value_read a.props a.state.now l.v in
    let size : nat_abs (neg_ℤ z) < 2 ^ 63 = omega (arith, abs_neg z, c.i32_at-x.ensures.1) in
    rw (back z c.i32_at-x.type_inv, zero_sub z, back_small (neg_ℤ z) size)
    (signed_step (state_of a.props a.state.now) a.vars l.v c.requires.1 l.invariant (omega arith) e (ap neg_ℤ e))

pub returns : goal.returns
returns c = written_end c.loop-v.invariant (omega arith)
