-- Demand 2 for the normal form, as one theorem from the bytes of a written table to the bytes that normalise writes: a list solves
-- the written table exactly when it solves its normal form. Assumes nothing.
use Rattle.std.specs.Prelude.{ℕ, ◌≤◌, ◌≡◌, ◌↔◌, List, length, take, Ok}
use Rattle.model.specs.Limits.{paper}
use Rattle.model.specs.Task.{normal}
use Rattle.model.specs.Move.{State, Solves, real}
use Rattle.model.specs.NormalForm.{normal_state}
use Rattle.model.specs.Reading.{Table, accepted, only, reading}
use Rattle.model.specs.Calls.{writes, normalised, normalise_answer, normalise_out}

-- the bytes that normalise leaves: as many from the start of its output as it answers
abbrev pub normal_part : List ℕ → List ℕ → ℕ → List ℕ
normal_part t normalOut n = take n (normalise_out paper t normalOut)

-- What normalise leaves of the bytes t of a written table w.
pub record SameSolutions (t normalOut : List ℕ) (w : Table) : Type 0 where
  -- "Normalise answers the length of the normal form .. written from the start of its output."
  pub size : ℕ
  pub answer : normalise_answer paper t normalOut ≡ Ok size
  -- these bytes, read again, are an accepted normal table
  pub table : Table
  pub read : reading paper (only normal) (normal_part t normalOut size) ≡ accepted table
  -- a list of any length solves the written table, from any state, exactly when it solves the table read again, from the signed
  -- variables of that state; both are run with real moves
  pub solutions :
      (s : State) (list : List ℕ)
      → Solves real w.task s list ↔ Solves real table.task (normal_state s) list

-- ---- what normalise hands on to decide and plan
-- n bytes were written: they are the normal form
pub record Handed (t normalOut : List ℕ) (n : ℕ) : Type 0 where
  pub bytes : List ℕ
  pub is : normalised paper t (length normalOut) ≡ writes bytes
  pub part : take n (normalise_out paper t normalOut) ≡ bytes
  pub inside : n ≤ length (normalise_out paper t normalOut)
