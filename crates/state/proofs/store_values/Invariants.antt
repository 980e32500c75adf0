-- `store_values` meets its contract. The invariant: the values passed are stored.
-- Assumes nothing.
use Prim.Native.Nat.{ℕ}
use lib.IntN.{pos}
use lib.ListN.{get_or}
use Rattle.state.specs.Storing.{ValuesStored}
use Rattle.state.proofs.store_values.Given as goal

abbrev pub invariant-loop-v : goal.invariant-loop-v
invariant-loop-v l = ValuesStored (λ (k : ℕ). get_or l.values k (pos 0)) l.props l.vars l.initial.out l.out l.v
