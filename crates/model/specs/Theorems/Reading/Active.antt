-- Moves that do something: what the check for refusal 16 says of a move. Assumes nothing.
use Rattle.std.specs.Prelude.{List, T}
use Rattle.model.specs.Task.{Block, active}
use Rattle.model.specs.Reading.{Wanted, checks16}
use Rattle.model.specs.Theorems.Reading.WellFormed.{All}

-- every move does something
abbrev pub AllActive : List Block → Type 0
AllActive ms = All (λ b. T (active b)) ms

-- a move that a call takes: the calls that check 16 take one that does something
abbrev pub Lively : Wanted → Block → Type 0
Lively w b = T (checks16 w) → T (active b)
