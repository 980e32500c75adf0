-- The searches of `Lists` as laws: what it means that all, that some pass a test; the first that passes; folds and tables.
-- Each search has an elimination law and no equation of an Option. Assumes nothing.
use Prim.Native.Nat.{ℕ, ◌-◌, ◌≤◌}
use Rattle.std.specs.Prelude.{◌≡◌, Bool}
use Rattle.model.specs.Lists.{first_from}

-- a search for the first number below n that passes has come to i: none below it passes
pub record Searched (f : ℕ → Bool) (n i : ℕ) : Type 0 where
  pub within : i ≤ n
  pub same : first_from f 0 n ≡ first_from f i (n - i)
