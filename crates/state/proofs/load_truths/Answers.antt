-- `load_truths` meets its contract. The invariant: the truths passed are written. Assumes nothing.
use native.Mathlib.Omega.{arith}
use mathlib.Core.Path.{refl}
use Rattle.model.specs.StateTable.{state_of}
use Rattle.state.specs.Loading.{written_start, written_length_lem, written_step, written_end}
use Rattle.state.proofs.load_truths.Goals as goal

pub loop-p-init : goal.loop-p-init
loop-p-init c = written_start

pub bounds-has-p : goal.bounds-has-p
bounds-has-p c = omega (arith, written_length_lem c.requires.1 c.loop-p.invariant)

pub loop-p-preserved : goal.loop-p-preserved
unfolding state_of
loop-p-preserved c = written_step c.requires.1 c.loop-p.invariant (omega arith) refl

pub returns : goal.returns
returns c = written_end c.loop-p.invariant (omega arith)
