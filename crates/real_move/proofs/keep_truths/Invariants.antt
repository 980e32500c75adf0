-- `keep_truths` meets its contract. The invariant: the truths before `p` are copied. Assumes nothing.
use Rattle.std.specs.Prelude.{ℕ, ◌<◌, ◌≡◌, false, get_or}
use Rattle.real_move.proofs.keep_truths.Given as goal

abbrev pub invariant-loop-p : goal.invariant-loop-p
invariant-loop-p l = (j : ℕ) → j < l.p → get_or l.had j false ≡ get_or l.has j false
