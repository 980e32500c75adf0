-- Layer memory by place: the numbers that stored layers take, and what a memory that holds them holds.
-- Assumes nothing.
use Rattle.std.specs.Prelude.{ℕ, ◌+◌, ◌*◌, ◌≤◌, ◌<◌, ◌≡◌, List, ℤ, pos, length, get_or}
use Rattle.model.specs.Task.{Task}
use Rattle.model.specs.Move.{State}
use Rattle.model.specs.Layer.{layer_at}
use Rattle.model.specs.Memory.{encode, prop_entry, move_entry}

module _ (k : Task) (s : State) where
  -- the numbers that n stored layers take
  abbrev pub size : ℕ → ℕ
  size n = k.props + length k.moves + k.vars * n

-- A memory that was `old` at entry and now holds n stored layers with the entries of so many steps.
pub record Holds (k : Task) (s : State) (n steps : ℕ) (old mem : List ℤ) : Type 0 where
  pub same_length : length mem ≡ length old
  pub prop : (p : ℕ) → p < k.props → get_or mem p (pos 0) ≡ prop_entry k s n p
  pub move : (b : ℕ) → b < length k.moves → get_or mem (k.props + b) (pos 0) ≡ move_entry k s steps b
  pub value :
      (u v : ℕ) → u < n → v < k.vars
      → get_or mem (k.props + length k.moves + (k.vars * u + v)) (pos 0) ≡ encode ((layer_at k s u).val v)
  pub kept : (i : ℕ) → size k s n ≤ i → get_or mem i (pos 0) ≡ get_or old i (pos 0)
