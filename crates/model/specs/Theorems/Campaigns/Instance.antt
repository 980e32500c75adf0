-- Demands 2 and 3 at M1, and at a table with terms of weight 0: their premises can be met, with the memories that document 01 names and
-- no more. Assumes nothing.
use Rattle.std.specs.Prelude.{ℕ, List, [], ◌∷◌, ◌++◌}
use Rattle.model.specs.Limits.{paper}
use Rattle.model.specs.Task.{written}
use Rattle.model.specs.Seen.{nothing_seen}
use Rattle.model.specs.Reading.{Table, Verdict, accepted, refused, table_of, only, reading}
use Rattle.model.specs.Theorems.Campaigns.Tables.{m1}

-- the table that was read
unfoldable pub table_in : Verdict → Table
table_in (accepted k) = k
table_in (refused r) = table_of nothing_seen

unfoldable pub m1_table : Table
m1_table = table_in (reading paper (only written) m1)

-- ---- a table with terms of weight 0
-- v0 := 0·v0 + v1, goal v0 + 0·v1 ≥ 5; from v0 = 0, v1 = 5
unfoldable pub grid_goal : List ℕ
grid_goal =
    (0x54 ∷ 0 ∷ 2 ∷ 1 ∷ 0x41 ∷ 0x57 ∷ 0 ∷ 0 ∷ 0 ∷ 0x57 ∷ 1 ∷ 0 ∷ 1 ∷ 0x46 ∷ 0 ∷ 0 ∷ 0 ∷ 0 ∷ 0 ∷ 0 ∷ [])
    ++ (0x47 ∷ 0x57 ∷ 0 ∷ 0 ∷ 1 ∷ 0x57 ∷ 1 ∷ 0 ∷ 0 ∷ 0x43 ∷ 0 ∷ 0 ∷ 0 ∷ 0 ∷ 5 ∷ 0x45 ∷ [])

unfoldable pub grid_state : List ℕ
grid_state = 0 ∷ 0 ∷ 0 ∷ 0 ∷ 0 ∷ 0 ∷ 0 ∷ 5 ∷ []
