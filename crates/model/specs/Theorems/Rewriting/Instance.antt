-- The rewriter's theorems at a table with two moves that do nothing: their premises can be met, with the memories that document 01 names
-- and no more. Assumes nothing.
use Rattle.model.specs.Limits.{paper}
use Rattle.model.specs.Reading.{Table, stored, reading}
use Rattle.model.specs.Theorems.Campaigns.Instance.{table_in}
use Rattle.model.specs.Theorems.Rewriting.Cases.{unfinished}

-- `unfinished`: moves 0 and 2 do nothing, move 1 adds p0, move 3 is v0 += 0; goal p0
unfoldable pub unfinished_table : Table
unfinished_table = table_in (reading paper stored unfinished)
