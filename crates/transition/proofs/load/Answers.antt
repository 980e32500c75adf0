-- `load` meets its contract. Assumes nothing.
use native.Mathlib.Omega.{arith}
use Rattle.model.specs.Limits.{paper}
use Rattle.model.proofs.Theorems.Reading.States.{accepted_state}
use Rattle.transition.specs.Steps.{loaded_holds}
use Rattle.transition.proofs.load.Goals as goal

pub load_truths-requires : goal.load_truths-requires
load_truths-requires c =
    let m = c.requires in
    (omega (arith, (accepted_state paper _ _ _ m.accepted).length_is), omega (arith, m.few_props))

pub load_values-requires : goal.load_values-requires
load_values-requires c =
    let m = c.requires in
    (omega (arith, (accepted_state paper _ _ _ m.accepted).length_is), omega (arith, m.few_vars))

pub returns : goal.returns
returns c =
    let m = c.requires in
    loaded_holds c.args.state.now _ _ m.accepted
    c.load_truths.ensures
    (omega (arith, m.few_props))
    c.load_values.ensures
    (omega (arith, m.few_vars))
