-- `store_truths` meets its contract. The invariant: the bytes of the truths passed are written. Assumes nothing.
use Prim.Native.Nat.{ℕ}
use mathlib.Core.Bool.{false}
use lib.ListN.{get_or}
use Rattle.model.specs.StateTable.{truth_byte}
use Rattle.state.specs.Loading.{Written}
use Rattle.state.proofs.store_truths.Given as goal

abbrev pub invariant-loop-p : goal.invariant-loop-p
invariant-loop-p l = Written (λ (k : ℕ). truth_byte (get_or l.has k false)) l.props l.initial.out l.out l.p
