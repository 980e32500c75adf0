-- The goal part that blocks at a written table whose goal is an `=`: its second half blocks. The premises of the theorems can be met, with
-- the memories that document 01 names and no more. Assumes nothing.
use Rattle.std.specs.Prelude.{ℕ, List, [], ◌∷◌, pos, negsuc, length}
use Rattle.model.specs.Limits.{paper}
use Rattle.model.specs.Task.{written, equal, Item, condition}
use Rattle.model.specs.Reading.{Table, only, reading}
use Rattle.model.specs.Calls.{normal_bytes}
use Rattle.model.specs.Theorems.Campaigns.Tables.{zeros}
use Rattle.model.specs.Theorems.Campaigns.Instance.{table_in}
use Rattle.model.specs.Theorems.Campaigns.Demand2.{normal_part}
use Rattle.model.specs.Theorems.Blocking.Cases.{missed}

-- `missed`: v += 1, goal v = −1; from v = 0
unfoldable pub missed_table : Table
missed_table = table_in (reading paper (only written) missed)

-- the bytes that normalise writes
abbrev pub missed_normal : List ℕ
missed_normal = normal_part missed (zeros 41) (length (normal_bytes missed_table.task))

-- ---- the item that it came from
unfoldable pub minus_one : Item
minus_one = condition (record { terms = record { var = 0; weight = pos 1 } ∷ []; comparison = equal; bound = negsuc 0 })
