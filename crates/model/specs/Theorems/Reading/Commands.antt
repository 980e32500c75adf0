-- One command of a table (document 01, "each command, in this order"): the number and place of the refusal when a check fails,
-- and what has been seen when none does. `Checks` says what the passed checks of each command give. Assumes nothing.
use Prim.Native.Nat.{ℕ, ◌+◌, ◌≤◌}
use Rattle.std.specs.Prelude.{◌≡◌, not, List, T, length}
use Rattle.std.proofs.Math.ListN.{get_or}
use Rattle.model.specs.Limits.{Limits}
use Rattle.model.specs.Command.{Command, code_of, width}
use Rattle.model.specs.Seen.{Seen}
use Rattle.model.specs.Reading.{Wanted, Operand, wrong3, wrong6, operands, wrong5, wrong16}
use Rattle.model.specs.Theorems.Reading.WellFormed.{All}

-- ---- a command that passes all checks: its byte, then 3, 2, 6, 16, 4 and 5
pub record Passes (L : Limits) (w : Wanted) (t : List ℕ) (s : Seen) (c : Command) : Type 0 where
  pub code : get_or t s.at 0 ≡ code_of c
  pub placed : T (not (wrong3 w s c))
  pub uncut : s.at + width c ≤ length t
  pub counted : T (not (wrong6 s c))
  pub lively : T (not (wrong16 w s c))
  pub ranged : All (λ (o : Operand). T o.in_range) (operands L t s c)
  pub fresh : T (not (wrong5 L t s c))
