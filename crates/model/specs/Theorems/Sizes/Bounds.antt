-- Sizes of numbers: places between two bounds, and the one law for a sum of weighted values. Assumes nothing.
use Rattle.std.specs.Prelude.{ℕ, ◌≤◌, List, ℤ, pos, neg_ℤ, length, ◌≤ℤ◌}
use Rattle.model.specs.Limits.{paper}
use Rattle.model.specs.Task.{Form, Term}
use Rattle.model.specs.Theorems.Reading.WellFormed.{All, TermOk}

-- ---- places between two bounds

-- z is from −low to high
pub record Between (low high : ℕ) (z : ℤ) : Type 0 where
  pub from : neg_ℤ (pos low) ≤ℤ z
  pub to : z ≤ℤ pos high

-- ---- sums of a table's terms
-- some terms of one sum of a table: all of them, those before one or those behind it
pub record FewTerms (f : Form) (vars : ℕ) (ts : List Term) : Type 0 where
  pub terms : All (TermOk paper f vars) ts
  pub few : length ts ≤ 8
