-- The plan does not see moves that do nothing: its records are the old ones with each move under its new number, and so is its
-- list. Assumes nothing.
use Rattle.model.specs.Task.{Task}
use Rattle.model.specs.Plan.{Record}
use Rattle.model.specs.Rewrite.{new_number}

-- ---- records
-- a record with the move under its new number
abbrev pub new_record : Task → Record → Record
new_record k r = record { layer = r.layer; move = new_number k.moves r.move; count = r.count }
