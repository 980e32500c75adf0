-- Printed terms, items and blocks read back: the reading passes all their commands and has seen them. Assumes nothing.
use Rattle.std.specs.Prelude.{ℕ, T}
use mathlib.Core.List.{List}
use Rattle.model.specs.Task.{Term, Item, Block, clashes}
use Rattle.model.specs.Command.{Place}
use Rattle.model.specs.Seen.{Head, Seen}

-- two items that may stand in one block
abbrev pub Apart : Item → Item → Type 0
Apart j i = T (clashes j i) → ⊥

-- in the block that stands open at a place, after a head, closed moves and marks
abbrev pub within : Place → Head → List Block → List ℕ → ℕ → Block → List Term → Seen
within p h ms marks at b us =
    record { at = at; place = p; header = h; moves = ms; items = b; terms = us; marks = marks }
