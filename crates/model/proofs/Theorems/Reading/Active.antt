-- Moves that do something: what the check for refusal 16 says of a move. Assumes nothing.
use Rattle.std.specs.Prelude.{Bool, true, false, not, ◌&&◌, List, T}
use Rattle.model.specs.Task.{Form, Block, active}
use Rattle.model.specs.Command.{in_move}
use Rattle.model.specs.Reading.{Wanted, only, both, checks16, idle}
use Rattle.model.specs.Theorems.Reading.WellFormed.{All}
use Rattle.model.proofs.Theorems.Laws.Searching.{All-map}
use Rattle.model.specs.Theorems.Reading.Active.{AllActive, Lively}

-- every call but the rewriter checks it
pub only_checks : (f : Form) → T (checks16 (only f))
unfolding checks16
only_checks f = tt

pub both_checks : T (checks16 both)
unfolding checks16
both_checks = tt

-- what 16 says of a move that is closed, both ways
pub lively_passes : (w : Wanted) (b : Block) → Lively w b → T (not (checks16 w && idle in_move b))
unfolding idle
lively_passes w b h = go (checks16 w) (active b) h
  where
    go : (c a : Bool) → (T c → T a) → T (not (c && not a))
    go true true k = tt
    go true false k = k tt
    go false a k = tt

pub passes_lively : (w : Wanted) (b : Block) → T (not (checks16 w && idle in_move b)) → Lively w b
unfolding idle
passes_lively w b h = go (checks16 w) (active b) h
  where
    go : (c a : Bool) → T (not (c && not a)) → T c → T a
    go true true k c = tt
    go true false k c = k
    go false a k c = absurd c

-- elsewhere no move is closed
pub none_closes : (c : Bool) → T (not (c && false))
none_closes true = tt
none_closes false = tt

pub all_lively : (w : Wanted) (ms : List Block) → AllActive ms → All (Lively w) ms
all_lively w ms = All-map ms (λ b h c. h)

pub lively_active : (w : Wanted) (ms : List Block) → T (checks16 w) → All (Lively w) ms → AllActive ms
lively_active w ms c = All-map ms (λ b h. h c)
