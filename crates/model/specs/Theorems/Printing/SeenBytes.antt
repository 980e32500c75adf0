-- The bytes read so far are the bytes of what has been seen: as many for any list of numbers, and the same where all are bytes.
-- One relation says both, so that each command is looked at once. Assumes nothing.
use Rattle.std.specs.Prelude.{ℕ, ◌≡◌, length}
use mathlib.Core.List.{List, [], ◌∷◌, ◌++◌}
use Rattle.integer.specs.BigEndian.{AllBytes}
use Rattle.model.specs.Task.{Term, Block}
use Rattle.model.specs.Command.{Command, head, open_move, open_goal, end_table, code_of, term_bytes, items_bytes, moves_bytes, Place, start, preamble, in_move, in_goal, finished}
use Rattle.model.specs.Seen.{Head}

-- xs is as long as ys; it is ys where t consists of bytes
pub record Prints (t xs ys : List ℕ) : Type 0 where
  pub long : length xs ≡ length ys
  pub same : AllBytes t → xs ≡ ys

-- ---- the bytes of what has been seen
unfoldable pub head_bytes : Head → List ℕ
head_bytes h = code_of (head h.form) ∷ h.props ∷ h.vars ∷ h.moves ∷ []

-- with a block open, and behind it
unfoldable pub open_bytes : Command → Head → List Block → Block → List Term → List ℕ
open_bytes c h ms b ts = head_bytes h ++ moves_bytes ms ++ (code_of c ∷ items_bytes b) ++ term_bytes ts

unfoldable pub seen_bytes : Place → Head → List Block → Block → List Term → List ℕ
seen_bytes start h ms b ts = []
seen_bytes preamble h ms b ts = head_bytes h ++ moves_bytes ms
seen_bytes in_move h ms b ts = open_bytes open_move h ms b ts
seen_bytes in_goal h ms b ts = open_bytes open_goal h ms b ts
seen_bytes finished h ms b ts = open_bytes open_goal h ms b [] ++ (code_of end_table ∷ [])
