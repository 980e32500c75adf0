-- Demand 2 for the normal form, as one theorem from the bytes of a written table to the bytes that normalise writes: a list solves
-- the written table exactly when it solves its normal form. Assumes nothing.
use Rattle.std.specs.Prelude.{ℕ, ◌≤◌, ◌≡◌, List, length, take, drop, Ok, Err}
use Rattle.std.proofs.Math.Path.{refl}
use Rattle.std.proofs.Common.{ap, ◌∙◌, arith}
use Rattle.std.proofs.Math.Seq.{take-append_seam}
use Rattle.model.specs.Limits.{paper}
use Rattle.model.specs.Task.{written, normal}
use Rattle.model.specs.Reading.{Table, accepted, only, reading}
use Rattle.model.specs.Memory.{overwrite}
use Rattle.model.specs.Calls.{Output, writes, turns, write_answer, output_after, normal_of, normalised, normal_bytes, normalise_answer, normalise_out}
use Rattle.model.specs.declared.Refusal.{Refusal}
use Rattle.model.specs.Theorems.NormalForm.Print.{normal_table}
use Rattle.model.proofs.Theorems.NormalForm.Print.{normal_accepted}
use Rattle.model.proofs.Theorems.NormalForm.Moves.{written_normal}
use Rattle.model.proofs.Theorems.Printing.Outputs.{fitted_whole, written_part, written_inside}
use Rattle.model.specs.Theorems.Campaigns.Demand2.{Handed, SameSolutions, normal_part}

-- what normalise writes and answers, where its output has room
module _ (t normalOut : List ℕ) (w : Table) (read : reading paper (only written) t ≡ accepted w) (fits : length (normal_bytes w.task) ≤ length normalOut) where
  pub normalise_writes : normalised paper t (length normalOut) ≡ writes (normal_bytes w.task)
  unfolding normalised normal_of
  normalise_writes = rw read (fitted_whole (length normalOut) (normal_bytes w.task) fits)

  pub normalise_answers : normalise_answer paper t normalOut ≡ Ok (length (normal_bytes w.task))
  unfolding normalise_answer write_answer
  normalise_answers = rw normalise_writes refl

  pub normalise_leaves : normal_part t normalOut (length (normal_bytes w.task)) ≡ normal_bytes w.task
  unfolding normalise_out output_after overwrite
  normalise_leaves = rw normalise_writes (take-append_seam (normal_bytes w.task) (drop (length (normal_bytes w.task)) normalOut))

pub written_hands : (t normalOut : List ℕ) (n : ℕ) → normalise_answer paper t normalOut ≡ Ok n → Handed t normalOut n
unfolding normalise_answer normalise_out
written_hands t normalOut n e =
    let o = normalised paper t (length normalOut) in
    record {
      bytes = take n (normalise_out paper t normalOut);
      is = written_part o normalOut n e;
      part = refl;
      inside = written_inside o normalOut n e;
    }

pub refused_turns : (t normalOut : List ℕ) (r : Refusal) → normalise_answer paper t normalOut ≡ Err r → normalised paper t (length normalOut) ≡ turns r
unfolding normalise_answer write_answer
refused_turns t normalOut r e = go (normalised paper t (length normalOut)) refl e
  where
    go : (o : Output) → normalised paper t (length normalOut) ≡ o → write_answer o ≡ Err r → normalised paper t (length normalOut) ≡ turns r
    go (writes nb) is answer = let z : ◌≡◌ {A = ℕ} 0 1 = cc in absurd (omega arith)
    go (turns q) is answer = let same : q ≡ r = cc in is ∙ ap turns same

-- ---- the theorem
-- DEMAND 2, for the normal form. For an accepted written table, and an output with room for its normal form, normalise writes a
-- normal table that is accepted and that the same lists solve.
pub demand2 :
    (t normalOut : List ℕ) (w : Table)
    → reading paper (only written) t ≡ accepted w
    → length (normal_bytes w.task) ≤ length normalOut
    → SameSolutions t normalOut w
unfolding normal_table
demand2 t normalOut w accept room =
    record {
      size = length (normal_bytes w.task);
      answer = normalise_answers t normalOut w accept room;
      table = normal_table w.task;
      read = ap (reading paper (only normal)) (normalise_leaves t normalOut w accept room) ∙ normal_accepted t accept;
      solutions = λ s list. written_normal w.task list s;
    }
