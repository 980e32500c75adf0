-- `keep_values` meets its contract. The invariant: the values before `v` are in range and copied. Assumes nothing.
use Rattle.std.specs.Prelude.{ℕ, ◌<◌, ◌≡◌, true, pos, get_or}
use Rattle.real_move.specs.Values.{all_in_range}
use Rattle.real_move.proofs.keep_values.Given as goal

abbrev pub invariant-loop-v : goal.invariant-loop-v
invariant-loop-v l = (all_in_range l.next l.v ≡ true) × ((j : ℕ) → j < l.v → get_or l.values j (pos 0) ≡ get_or l.next j (pos 0))
