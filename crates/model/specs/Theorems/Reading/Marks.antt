-- The marks of a table, the offsets of its 41, 47 and 45 commands: mark b is where the bytes of block b begin, the last mark
-- where those of the goal end. Assumes nothing.
use Rattle.std.specs.Prelude.{ℕ, suc, ◌+◌, ◌≡◌, List, [], ◌∷◌, ◌++◌}
use Rattle.std.proofs.Math.ListN.{length}
use Rattle.model.specs.Task.{Block}
use Rattle.model.specs.Command.{items_bytes, Place, start, preamble, in_move, in_goal, finished}

-- where each of the blocks begins, the first at n, and where the last one ends
unfoldable pub starts : ℕ → List Block → List ℕ
starts n [] = n ∷ []
starts n (b ∷ bs) = n ∷ starts (n + suc (length (items_bytes b))) bs

-- ---- every command keeps the marks
abbrev pub Marked : Place → List Block → Block → List ℕ → Type 0
Marked start ms b marks = Unit {0}
Marked preamble ms b marks = marks ≡ []
Marked in_move ms b marks = marks ≡ starts 4 ms
Marked in_goal ms b marks = marks ≡ starts 4 ms
Marked finished ms b marks = marks ≡ starts 4 (ms ++ (b ∷ []))
