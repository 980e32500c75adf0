-- The numbers of a memory that are used. Assumes nothing.
use Rattle.std.specs.Prelude.{ℕ, ◌≤◌, ◌≡◌, cond, List, ltb, ℤ, length, take, drop}
use Rattle.ceiling.specs.Ceiling as ceilings
use Rattle.ceiling.specs.declared.Ceiling.{Ceiling}
use Rattle.ceiling.specs.Heads.{ceiling_of}

-- as many as there are and as the ceiling leaves
unfoldable pub fewer : ℕ → ℕ → ℕ
fewer a b = cond (ltb a b) a b

pub record Split (c : Ceiling) (mem : List ℤ) (n : ℕ) : Type 0 where
  pub inside : n ≤ length mem
  pub first : take n mem ≡ ceilings.first_of (ceiling_of c).numbers mem
  pub behind : drop n mem ≡ ceilings.behind_of (ceiling_of c).numbers mem
