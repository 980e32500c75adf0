-- What a list of moves does, and what is asked of a bought one (document 02, request 9), whoever checks it; with `Solves` of document 01.
-- Values are unlimited whole numbers. Assumes nothing.
use Rattle.std.specs.Prelude.{ℕ, ◌≤◌, ◌<◌, List, [], ◌∷◌, T, nat_abs, length, take}
use Rattle.model.specs.Limits.{Limits}
use Rattle.model.specs.Task.{Task}
use Rattle.model.specs.Move.{State, applicable, real, move_at, Solves}

-- the state after the moves of a list
unfoldable pub state_after : Task → State → List ℕ → State
state_after k s [] = s
state_after k s (b ∷ bs) = state_after k (real (move_at k b) s) bs

-- "within ±1,000,000", of every value of a state
abbrev pub ValuesInRange : Limits → Task → State → Type 0
ValuesInRange L k s = (v : ℕ) → v < k.vars → nat_abs (s.val v) ≤ L.constant

-- "all its values stay within ±1,000,000": before the first move, and after each
abbrev pub InRange : Limits → Task → State → List ℕ → Type 0
InRange L k s bs = (i : ℕ) → i ≤ length bs → ValuesInRange L k (state_after k s (take i bs))

-- "the list solves the table and all its values stay within ±1,000,000"
pub record SolvesInRange (L : Limits) (k : Task) (s : State) (bs : List ℕ) : Type 0 where
  pub solves : Solves real k s bs
  pub range : InRange L k s bs

-- a move that is none of "missing, not allowed or out of range" in a state
pub record CanMove (L : Limits) (k : Task) (s : State) (b : ℕ) : Type 0 where
  pub known : b < length k.moves
  pub allowed : T (applicable s (move_at k b))
  pub range : ValuesInRange L k (real (move_at k b) s)
