-- What the rewriter writes is a table that read takes, 16 included, and a table that read takes comes out as it is. Assumes
-- nothing.
use Prim.Native.Nat.{ℕ, ◌≤◌, ◌<◌}
use Rattle.std.specs.Prelude.{◌≡◌, ◌⊎◌, length}
use mathlib.Core.List.{List}
use Rattle.model.specs.declared.Refusal.{Refusal}
use Rattle.model.specs.Limits.{Limits}
use Rattle.model.specs.Move.{State, real, relaxed, Solves}
use Rattle.model.specs.Reading.{Table, accepted, refused, both, stored, reading}
use Rattle.model.specs.Calls.{Output, writes, turns}
use Rattle.model.specs.Rewrite.{rewritten, renumbered, numbered_back}

-- ---- the call
-- o is a table that read takes, and lists solve the old table and it alike
pub record Rewrites (L : Limits) (t o : List ℕ) : Type 0 where
  pub old : Table
  pub new : Table
  pub read_old : reading L stored t ≡ accepted old
  pub read_new : reading L both o ≡ accepted new
  pub task : new.task ≡ rewritten old.task
  pub real_forth : (s : State) (bs : List ℕ) → Solves real old.task s bs → Solves real new.task s (renumbered old.task bs)
  pub real_back : (s : State) (bs : List ℕ) → Solves real new.task s bs → Solves real old.task s (numbered_back old.task bs)
  pub relaxed_forth : (s : State) (bs : List ℕ) → Solves relaxed old.task s bs → Solves relaxed new.task s (renumbered old.task bs)
  pub relaxed_back : (s : State) (bs : List ℕ) → Solves relaxed new.task s bs → Solves relaxed old.task s (numbered_back old.task bs)

-- 13: the table is taken, and the output is too short for what would be written
pub record TooShort (L : Limits) (t : List ℕ) (size : ℕ) (r : Refusal) : Type 0 where
  pub result : List ℕ
  pub rewrites : Rewrites L t result
  pub short : size < length result
  pub is13 : r ≡ record { number = 13; place = 0 }

-- whatever the call writes, and why it turns back
abbrev pub RewriteRight : Limits → List ℕ → ℕ → Output → Type 0
RewriteRight L t size (writes o) = Rewrites L t o × (length o ≤ size)
RewriteRight L t size (turns r) = (reading L stored t ≡ refused r) ⊎ TooShort L t size r
