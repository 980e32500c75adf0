-- `store_truths` meets its contract. The invariant: the bytes of the truths passed are written. Assumes nothing.
use native.Mathlib.Omega.{arith}
use mathlib.Core.Path.{◌≡◌, refl}
use mathlib.Core.Bool.{Bool, true, false}
use mir.Val.{bool_byte}
use Rattle.model.specs.StateTable.{truth_byte}
use Rattle.state.specs.Loading.{written_start, written_length_lem, written_step, written_end}
use Rattle.state.specs.Storing.{state_in, truth_bytes}
use Rattle.state.proofs.store_truths.Goals as goal

pub loop-p-init : goal.loop-p-init
loop-p-init c = written_start

pub bounds-out-p : goal.bounds-out-p
bounds-out-p c = omega (arith, written_length_lem c.requires.0 c.loop-p.invariant)

-- the byte that a truth is read as
truth_cast : (b : Bool) → bool_byte b ≡ truth_byte b
unfolding truth_byte
truth_cast true = refl
truth_cast false = refl

pub loop-p-preserved : goal.loop-p-preserved
loop-p-preserved c = written_step c.requires.0 c.loop-p.invariant (omega arith) (truth_cast _)

pub returns : goal.returns
unfolding state_in truth_bytes
returns c = written_end c.loop-p.invariant (omega arith)
