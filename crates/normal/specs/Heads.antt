-- The answer of normalising, from what reading the table answers. Assumes nothing.
use Rattle.std.specs.Prelude.{ℕ, ◌≡◌, List, Result, Err}
use Rattle.std.proofs.Common.{sym, ◌∙◌}
use Rattle.std.proofs.Math.Path.{ap}
use Rattle.model.specs.declared.Refusal.{Refusal}
use Rattle.model.specs.Limits.{paper}
use Rattle.model.specs.Task.{written}
use Rattle.model.specs.Reading.{refused, only, reading}
use Rattle.model.specs.Calls.{writes, normal_bytes, normal_of, normalised, normalise_answer, normalise_out}
use Rattle.table.specs.Outlines.{HeadRead}
use Rattle.reader.specs.Written.{read_task, task_is}
use Rattle.output.specs.Answers.{Answered, answered_same, answered_refused}

normalise_answered :
    (t : List ℕ) {old new : List ℕ} {r : Result ℕ Refusal}
    → Answered (normal_of (reading paper (only written) t)) old new r
    → (r ≡ normalise_answer paper t old) × (new ≡ normalise_out paper t old)
unfolding normalise_answer normalise_out normalised
normalise_answered t a = (a.answer, a.output)

module _ {t marks : List ℕ} {props vars moves : ℕ} (h : HeadRead written t marks props vars moves) where
  normal_is : normal_of (reading paper (only written) t) ≡ writes (normal_bytes (read_task t))
  unfolding normal_of
  normal_is = ap normal_of h.is ∙ ap (λ k. writes (normal_bytes k)) (sym (task_is h))

  -- the call's answer is what was written
  pub normalise_written :
      {old new : List ℕ} {r : Result ℕ Refusal}
      → Answered (writes (normal_bytes (read_task t))) old new r
      → (r ≡ normalise_answer paper t old) × (new ≡ normalise_out paper t old)
  normalise_written a = normalise_answered t (answered_same a (sym normal_is))

-- the table is refused
pub normalise_refused :
    (t old : List ℕ) {q : Refusal}
    → reading paper (only written) t ≡ refused q
    → (Err q ≡ normalise_answer paper t old) × (old ≡ normalise_out paper t old)
unfolding normal_of
normalise_refused t old e = normalise_answered t (answered_refused old (ap normal_of e))
