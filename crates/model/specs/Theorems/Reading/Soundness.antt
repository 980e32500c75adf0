-- What has been seen of a table is well formed after every command that passes its checks: ranges, rising terms, each thing
-- named once, as many moves as the head says before the goal, nothing but conditions in the goal. Assumes nothing.
use Rattle.std.specs.Prelude.{◌<◌, ◌≡◌, List, [], length}
use Rattle.model.specs.Limits.{Limits}
use Rattle.model.specs.Task.{Block}
use Rattle.model.specs.Command.{Place, start, preamble, in_move, in_goal, finished}
use Rattle.model.specs.Seen.{Head, Seen}
use Rattle.model.specs.Reading.{Wanted}
use Rattle.model.specs.Theorems.Reading.WellFormed.{All, SumOk, BlockOk, GoalItem}
use Rattle.model.specs.Theorems.Reading.Checks.{HeadOk}

-- what the place says of the head, of the number of moves that are closed, and of the open block
abbrev pub Stage : Limits → Wanted → Place → Head → List Block → Block → Type 0
Stage L w start h ms b = Unit {0}
Stage L w preamble h ms b = HeadOk L w h × (ms ≡ [])
Stage L w in_move h ms b = HeadOk L w h × (length ms < h.moves)
Stage L w in_goal h ms b = HeadOk L w h × (length ms ≡ h.moves) × All GoalItem b
Stage L w finished h ms b = HeadOk L w h × (length ms ≡ h.moves) × All GoalItem b

pub record Sound (L : Limits) (w : Wanted) (s : Seen) : Type 0 where
  pub stage : Stage L w s.place s.header s.moves s.items
  pub moves : All (BlockOk L s.header.form s.header.props s.header.vars) s.moves
  pub items : BlockOk L s.header.form s.header.props s.header.vars s.items
  pub terms : SumOk L s.header.form s.header.vars s.terms
