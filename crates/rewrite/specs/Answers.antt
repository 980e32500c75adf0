-- The answer of rewriting, from what reading the table answers. Assumes nothing.
use Rattle.std.specs.Prelude.{ℕ, ◌≡◌, List, Result, Err}
use Rattle.std.proofs.Math.Path.{sym, ap}
use Rattle.std.proofs.Common.{◌∙◌}
use Rattle.model.specs.declared.Refusal.{Refusal}
use Rattle.model.specs.Limits.{paper}
use Rattle.model.specs.Command.{task_bytes}
use Rattle.model.specs.Reading.{refused, stored, reading}
use Rattle.model.specs.Calls.{writes}
use Rattle.model.specs.Rewrite.{rewritten, rewrite_of, rewrote, rewrite_answer, rewrite_out}
use Rattle.table.specs.Outlines.{StoredRead}
use Rattle.output.specs.Answers.{Answered, answered_same, answered_refused}
use Rattle.rewrite.specs.Stored.{rewritten_bytes, form_is, task_is}

rewrite_answered :
    (t : List ℕ) {old new : List ℕ} {r : Result ℕ Refusal}
    → Answered (rewrite_of (reading paper stored t)) old new r
    → (r ≡ rewrite_answer paper t old) × (new ≡ rewrite_out paper t old)
unfolding rewrite_answer rewrite_out rewrote
rewrite_answered t a = (a.answer, a.output)

module _ {t marks : List ℕ} {moves : ℕ} (h : StoredRead t marks moves) where
  rewritten_is : rewrite_of (reading paper stored t) ≡ writes (rewritten_bytes t)
  unfolding rewrite_of rewritten_bytes
  rewritten_is = ap rewrite_of h.is ∙ sym (rw (form_is h, task_is h) (λ i. writes (task_bytes h.table.header.form (rewritten h.table.task))))

  -- the call's answer is what was written
  pub rewrite_written :
      {old new : List ℕ} {r : Result ℕ Refusal}
      → Answered (writes (rewritten_bytes t)) old new r
      → (r ≡ rewrite_answer paper t old) × (new ≡ rewrite_out paper t old)
  rewrite_written a = rewrite_answered t (answered_same a (sym rewritten_is))

-- the table is refused
pub rewrite_refused :
    (t old : List ℕ) {q : Refusal}
    → reading paper stored t ≡ refused q
    → (Err q ≡ rewrite_answer paper t old) × (old ≡ rewrite_out paper t old)
unfolding rewrite_of
rewrite_refused t old e = rewrite_answered t (answered_refused old (ap rewrite_of e))
