-- `put_state` meets its contract: 13, or the state is stored. Assumes nothing.
use Prim.Native.Nat.{◌+◌, ◌*◌}
use native.Mathlib.Omega.{arith}
use mathlib.Core.Path.{◌≡◌, sym}
use lib.ListN.{length}
use Rattle.model.specs.StateTable.{state_bytes}
use Rattle.model.proofs.Theorems.Reading.States.{length_state_bytes}
use Rattle.state.specs.Storing.{state_in}
use Rattle.output.specs.Answers.{answered_short, answered_whole}
use Rattle.real_move.specs.Moving.{holds_small}
use Rattle.transition.proofs.put_state.Goals as goal

pub returns-then-out-size : goal.returns-then-out-size
returns-then-out-size c =
    let size : length (state_bytes c.args.props c.args.vars (state_in c.args.state.now.has c.args.state.now.values)) ≡ c.args.props + 4 * c.args.vars = length_state_bytes c.args.props c.args.vars (state_in c.args.state.now.has c.args.state.now.values) in
    rw c.at.ensures (answered_short (sym size) (omega (arith, c.if-out-size.true)))

pub store-requires : goal.store-requires
store-requires c =
    let w = c.requires.holds in
    (w.long_has, record { room = omega (arith, c.if-out-size.false); given = w.long_values; small = holds_small w })

pub returns : goal.returns
returns c =
    let size : length (state_bytes c.args.props c.args.vars (state_in c.args.state.now.has c.args.state.now.values)) ≡ c.args.props + 4 * c.args.vars = length_state_bytes c.args.props c.args.vars (state_in c.args.state.now.has c.args.state.now.values) in
    answered_whole (sym size) (omega (arith, c.if-out-size.false)) c.store.ensures
