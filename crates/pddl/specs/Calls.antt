-- The answer of the call that writes PDDL text, by its checks. Assumes nothing.
use Rattle.std.specs.Prelude.{ℕ, ◌≡◌, List, Result, Err}
use Rattle.std.proofs.Math.Path.{sym, ap, ap₂}
use Rattle.std.proofs.Common.{◌∙◌}
use Rattle.std.proofs.Math.Option.{none, some}
use Rattle.model.specs.declared.Refusal.{Refusal}
use Rattle.model.specs.Limits.{paper}
use Rattle.model.specs.Task.{written, Task}
use Rattle.model.specs.Reading.{Verdict, refused, only, reading}
use Rattle.model.specs.StateTable.{state_of, state_refusal}
use Rattle.model.specs.Calls.{writes, turns}
use Rattle.model.specs.Pddl.{task_text, text_with_state, text_of, pddl_text, pddl_answer, pddl_out}
use Rattle.table.specs.Outlines.{HeadRead}
use Rattle.reader.specs.Written.{read_task, task_is}
use Rattle.output.specs.Answers.{Answered, answered_refused}

module _ {t marks : List ℕ} {props vars moves : ℕ} (h : HeadRead written t marks props vars moves) (bs : List ℕ) where
  answer_is : text_of paper (reading paper (only written) t) bs ≡ text_with_state (read_task t) bs (state_refusal paper props vars bs)
  unfolding text_of
  answer_is =
      ap (λ (v : Verdict). text_of paper v bs) h.is
      ∙ ap₂ (λ (p n : ℕ). text_with_state h.table.task bs (state_refusal paper p n bs)) (sym h.props_is) (sym h.vars_is)
      ∙ ap (λ (k : Task). text_with_state k bs (state_refusal paper props vars bs)) (sym (task_is h))

  -- the state is refused
  pub text_refused : {q : Refusal} → state_refusal paper props vars bs ≡ some q → text_of paper (reading paper (only written) t) bs ≡ turns q
  unfolding text_with_state
  text_refused e = answer_is ∙ ap (text_with_state (read_task t) bs) e

  -- it is accepted
  pub text_written : state_refusal paper props vars bs ≡ none → writes (task_text (read_task t) (state_of props bs)) ≡ text_of paper (reading paper (only written) t) bs
  unfolding text_with_state
  text_written e =
      let same : props ≡ (read_task t).props = rw (task_is h) h.props_is in
      ap (λ (n : ℕ). writes (task_text (read_task t) (state_of n bs))) same ∙ sym (answer_is ∙ ap (text_with_state (read_task t) bs) e)

module _ (t bs : List ℕ) where
  pub pddl_answered :
      {old new : List ℕ} {r : Result ℕ Refusal}
      → Answered (text_of paper (reading paper (only written) t) bs) old new r
      → (r ≡ pddl_answer paper t bs old) × (new ≡ pddl_out paper t bs old)
  unfolding pddl_answer pddl_out pddl_text
  pddl_answered a = (a.answer, a.output)

  -- the table is refused
  pub pddl_refused :
      (old : List ℕ) {q : Refusal}
      → reading paper (only written) t ≡ refused q
      → (Err q ≡ pddl_answer paper t bs old) × (old ≡ pddl_out paper t bs old)
  unfolding text_of
  pddl_refused old e = pddl_answered (answered_refused old (ap (λ (v : Verdict). text_of paper v bs) e))
