-- `store` meets its contract: both stores are the bytes of the state. Assumes nothing.
use native.Mathlib.Omega.{arith}
use mathlib.Core.Path.{ap, ◌∙◌}
use mathlib.Core.List.{List}
use Prim.Native.Nat.{ℕ}
use Rattle.integer.specs.Store.{put}
use Rattle.model.specs.Lists.{tabulate}
use Rattle.model.specs.StateTable.{values_bytes}
use Rattle.state.specs.Storing.{state_in, truth_bytes, stored_both}
use Rattle.state.proofs.store.Goals as goal

pub returns : goal.returns
unfolding state_in truth_bytes
returns c =
    let t = state_in c.args.has.now c.args.values.now in
    c.store_values.ensures
    ∙ ap (λ (l : List ℕ). put l c.args.props (values_bytes (tabulate t.val 0 c.args.vars)))
    c.store_truths.ensures
    ∙ stored_both c.args.props c.args.vars t c.args.out.now (omega (arith, c.requires.1.room))
