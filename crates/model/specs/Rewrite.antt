-- The rewriter of stored tables: it "drops such moves and renumbers the others" (document 02, request 5). Assumes nothing.
use Rattle.std.specs.Prelude.{ℕ, zero, suc, cond, List, [], ◌∷◌, map, length, take, Result}
use Rattle.model.specs.Limits.{Limits}
use Rattle.model.specs.Task.{Block, Task, active}
use Rattle.model.specs.Move.{move_at}
use Rattle.model.specs.Command.{task_bytes}
use Rattle.model.specs.Reading.{Verdict, accepted, refused, stored, reading}
use Rattle.model.specs.Calls.{Output, writes, turns, fitted, write_answer, output_after}
use Rattle.model.specs.declared.Refusal.{Refusal}

-- "drops such moves": the moves that do something, in their order
unfoldable pub active_moves : List Block → List Block
active_moves [] = []
active_moves (b ∷ ms) = cond (active b) (b ∷ active_moves ms) (active_moves ms)

-- the others stay as they are, and so do P, V and the goal; a move's number is its place among the moves
unfoldable pub rewritten : Task → Task
rewritten k = record { props = k.props; vars = k.vars; moves = active_moves k.moves; goal = k.goal }

-- "renumbers the others": the new number of a move is how many before it do something
unfoldable pub new_number : List Block → ℕ → ℕ
new_number ms b = length (active_moves (take b ms))

-- the old number of the new move n: that of the one move that does something and whose new number is n
-- (`Theorems.Rewriting.Solving.old_number_lem`)
unfoldable pub old_number : List Block → ℕ → ℕ
old_number [] n = n
old_number (b ∷ ms) zero = cond (active b) 0 (suc (old_number ms 0))
old_number (b ∷ ms) (suc n) = cond (active b) (suc (old_number ms n)) (suc (old_number ms (suc n)))

-- "A list with those moves dropped and the rest renumbered"
unfoldable pub renumbered : Task → List ℕ → List ℕ
renumbered k [] = []
renumbered k (b ∷ bs) = cond (active (move_at k b)) (new_number k.moves b ∷ renumbered k bs) (renumbered k bs)

-- "numbered back"
unfoldable pub numbered_back : Task → List ℕ → List ℕ
numbered_back k bs = map (old_number k.moves) bs

-- ---- the call: "The rewriter takes both heads, with read's limits, and makes all checks but 16; a short output is 13."

unfoldable pub rewrite_of : Verdict → Output
rewrite_of (accepted k) = writes (task_bytes k.header.form (rewritten k.task))
rewrite_of (refused r) = turns r

unfoldable pub rewrote : Limits → List ℕ → ℕ → Output
rewrote L t size = fitted size (rewrite_of (reading L stored t))

unfoldable pub rewrite_answer : Limits → List ℕ → List ℕ → Result ℕ Refusal
rewrite_answer L t out = write_answer (rewrote L t (length out))

unfoldable pub rewrite_out : Limits → List ℕ → List ℕ → List ℕ
rewrite_out L t out = output_after (rewrote L t (length out)) out
