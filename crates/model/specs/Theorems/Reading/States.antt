-- What an accepted state is (document 01, "State"): its length, its truth bytes and its values are right, and its bytes are those of
-- its state. Assumes nothing.
use Prim.Native.Nat.{ℕ, ◌+◌, ◌*◌, ◌≤◌, ◌<◌}
use Rattle.std.specs.Prelude.{◌≡◌, nat_abs, get_or}
use mathlib.Core.List.{List}
use Rattle.std.proofs.Math.ListN.{length}
use Rattle.model.specs.Limits.{Limits}
use Rattle.model.specs.StateTable.{state_value}

-- the length, the truth bytes and the values of an accepted state
pub record AcceptedState (L : Limits) (props vars : ℕ) (bs : List ℕ) : Type 0 where
  pub length_is : length bs ≡ props + 4 * vars
  pub truths : (p : ℕ) → p < props → get_or bs p 0 ≤ 1
  pub values : (v : ℕ) → v < vars → nat_abs (state_value props bs v) ≤ L.constant
