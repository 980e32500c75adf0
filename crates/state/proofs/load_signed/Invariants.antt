-- `load_signed` meets its contract. The invariant: the signed variables of the values passed are written. Assumes nothing.
use Prim.Native.Nat.{◌*◌}
use Rattle.model.specs.NormalForm.{normal_state}
use Rattle.model.specs.StateTable.{state_of}
use Rattle.state.specs.Loading.{Written}
use Rattle.state.proofs.load_signed.Given as goal

abbrev pub invariant-loop-v : goal.invariant-loop-v
invariant-loop-v l = Written (normal_state (state_of l.props l.state)).val (2 * l.vars) l.initial.values l.values (2 * l.v)
