-- Reading on: which bytes are left at an offset, and that a command which passes every check of document 01's table "Where a
-- call turns back" takes the reading to the next command. Assumes nothing.
use Rattle.std.specs.Prelude.{ℕ, ◌+◌, ◌^◌, ◌<◌, ◌≡◌, List, drop}
use Rattle.model.specs.Limits.{Limits}

-- ---- the bytes left at an offset

pub record Left (t : List ℕ) (at : ℕ) (rest : List ℕ) : Type 0 where
  pub left : drop at t ≡ rest

-- The sizes at which two bytes hold every weight, four bytes every constant, and one byte every count.
pub record SmallLimits (L : Limits) : Type 0 where
  pub props : L.props < 256
  pub vars : L.vars < 128
  pub moves : L.moves < 256
  pub weight : L.weight < 2 ^ 15
  pub constant : L.constant + 1 < 2 ^ 31
