-- Rewriting twice is rewriting once, and a table that read takes comes out as it is. Assumes nothing.
use Rattle.std.specs.Prelude.{ℕ, ◌≤◌, ◌≡◌, List, length, Ok}
use Rattle.std.proofs.Common.{sym, subst}
use Rattle.std.proofs.Math.Path.{ap}
use Rattle.integer.specs.BigEndian.{AllBytes}
use Rattle.model.specs.Limits.{Limits}
use Rattle.model.specs.Task.{Task}
use Rattle.model.specs.Command.{task_bytes}
use Rattle.model.specs.Reading.{Table, accepted, both, stored, reading}
use Rattle.model.specs.Memory.{overwrite}
use Rattle.model.specs.Calls.{Output, writes, write_answer, output_after}
use Rattle.model.specs.Rewrite.{rewritten, rewrote, rewrite_answer, rewrite_out}
use Rattle.model.proofs.Theorems.Reading.Accepted.{reading_ok}
use Rattle.model.specs.Theorems.Printing.Passing.{SmallLimits}
use Rattle.model.proofs.Theorems.Printing.Bytes.{print_bytes}
use Rattle.model.proofs.Theorems.Rewriting.Accepted.{kept_active, rewritten_same, rewritten_ok, rewrite_read, rewrite_same}
use Rattle.model.proofs.Theorems.Rewriting.Sizes.{wrote}

-- over tasks
pub rewritten_twice : (k : Task) → rewritten (rewritten k) ≡ rewritten k
rewritten_twice k = rewritten_same (rewritten k) (unfold rewritten in (kept_active k.moves))

module _ (L : Limits) (small : SmallLimits L) (t : List ℕ) (bytes : AllBytes t) where
  -- Over bytes: what the rewriter wrote it writes again, with any room for it.
  pub rewrote_twice : (size : ℕ) {o : List ℕ} → rewrote L t size ≡ writes o → (room : ℕ) → length o ≤ room → rewrote L o room ≡ writes o
  rewrote_twice size {o} e =
      let w = wrote L t size e in
      let form = w.table.header.form in
      let new = rewritten w.table.task in
      subst (λ (l : List ℕ). (room : ℕ) → length l ≤ room → rewrote L l room ≡ writes l) (sym w.is)
      (rewrite_same L small (task_bytes form new) (print_bytes L form new small (rewritten_ok w.table.task (reading_ok L stored t w.read)))
      (rewrite_read L small t bytes w.read))

  -- A table that read takes comes out as it is.
  module _ {k : Table} (e : reading L both t ≡ accepted k) (out : List ℕ) (room : length t ≤ length out) where
    -- its length is answered
    pub same_answer : rewrite_answer L t out ≡ Ok (length t)
    unfolding rewrite_answer write_answer
    same_answer = ap write_answer (rewrite_same L small t bytes e (length out) room)

    -- its bytes are written, and those behind kept
    pub same_output : rewrite_out L t out ≡ overwrite t out
    unfolding rewrite_out output_after
    same_output = ap (λ (o : Output). output_after o out) (rewrite_same L small t bytes e (length out) room)
