-- The numbers of a layer memory that a ceiling allows, and those behind them. Assumes nothing.
use Rattle.std.specs.Prelude.{ℕ, ◌≤◌}
use Rattle.std.proofs.Math.Option.{Option, none, some}

-- a size within so many numbers
abbrev pub AtMost : Option ℕ → ℕ → Type 0
AtMost none size = Unit {0}
AtMost (some n) size = size ≤ n
