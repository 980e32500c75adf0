-- Every command that passes its checks is printed as it was read: the bytes before the next command stay the bytes of what has
-- been seen. Assumes nothing.
use Rattle.std.specs.Prelude.{ℕ, take}
use mathlib.Core.List.{List}
use Rattle.model.specs.Seen.{Seen}
use Rattle.model.specs.Theorems.Printing.SeenBytes.{Prints, seen_bytes}

-- the bytes before the next command are those of what has been seen
abbrev pub Printed : List ℕ → Seen → Type 0
Printed t s = Prints t (take s.at t) (seen_bytes s.place s.header s.moves s.items s.terms)
