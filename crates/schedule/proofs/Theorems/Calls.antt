-- Which answer the call gives on an accepted table and state, exactly: yes where the list solves the table with all its values in range and
-- its end state fits, 13 where it does not fit; the first entry that cannot be made, with its fault; "goal not met". Assumes nothing.
use Rattle.std.specs.Prelude.{ℕ, ◌+◌, ◌*◌, ◌≤◌, ◌<◌, ◌≡◌, ◌↔◌, List, length, Result, Ok, Err}
use Rattle.std.proofs.Common.{arith, sym, ◌∙◌}
use Rattle.std.proofs.Math.Path.{refl, ap, subst}
use Rattle.std.proofs.Math.Option.{Option, some-ne-none}
use Rattle.model.specs.declared.Refusal.{Refusal}
use Rattle.model.specs.Limits.{Limits}
use Rattle.model.specs.Task.{written, Task}
use Rattle.model.specs.Reading.{Table, Verdict, accepted, refused, only, reading}
use Rattle.model.specs.Move.{State}
use Rattle.model.specs.StateTable.{state_refusal, state_bytes}
use Rattle.model.specs.Calls.{on_output}
use Rattle.model.proofs.Theorems.Laws.Booleans.{clash}
use Rattle.model.proofs.Theorems.Reading.States.{length_state_bytes}
use Rattle.model.proofs.Theorems.Printing.Outputs.{fitted_whole, fitted_short}
use Rattle.schedule.specs.declared.Fault.{Fault}
use Rattle.schedule.specs.declared.CheckAnswer.{CheckAnswer}
use Rattle.schedule.specs.declared.CheckAnswer.TheVariants as check
use Rattle.schedule.specs.Run.{state_after, SolvesInRange}
use Rattle.schedule.specs.Check.{Checked, passes, check_from, reply_of, check_state, check_table, fitted_reply, checking, reply_answer, check_answer, check_out}
use Rattle.schedule.specs.Theorems.Lists.{FirstFault, Unmet}
use Rattle.schedule.proofs.Theorems.Exactly.{fails_exactly, unmet_exactly, yes_exactly}
use Rattle.schedule.specs.Theorems.Answers.{Given, start_of}
use Rattle.schedule.specs.Theorems.Answers.{Back, of_table, of_state, short, CheckRight}
use Rattle.schedule.proofs.Theorems.Answers.{given_range, answer_right}

-- the table of a verdict
unfoldable table_in : Table → Verdict → Table
table_in d (accepted w) = w
table_in d (refused r) = d

module _ (L : Limits) {t bs : List ℕ} {w : Table} (g : Given L t bs w) (ms old : List ℕ) where
  abbrev k : Task
  k = w.task

  abbrev s : State
  s = start_of w bs

  abbrev Answer : Result CheckAnswer Refusal → Type 0
  Answer a = check_answer L t bs ms old ≡ a

  -- the bytes of a state
  abbrev pub state_length : ℕ
  state_length = k.props + 4 * k.vars

  right_at : (a : Result CheckAnswer Refusal) → Answer a → CheckRight L t bs ms old (check_out L t bs ms old) a
  right_at a e = subst (CheckRight L t bs ms old (check_out L t bs ms old)) e (answer_right L t bs ms old)

  -- one table is read from the bytes
  same_table : {v : Table} → reading L (only written) t ≡ accepted v → v ≡ w
  unfolding table_in
  same_table e = ap (table_in w) (sym e ∙ g.table)

  not_refused : {r : Refusal} → reading L (only written) t ≡ refused r → ⊥
  not_refused e = let h = g.table in clash cc

  answer_at : {c : Checked} → check_from L k 0 s ms ≡ c → check_answer L t bs ms old ≡ reply_answer (fitted_reply (length old) (reply_of k c))
  unfolding check_answer checking check_table check_state
  answer_at e =
      ap (λ (v : Verdict). reply_answer (fitted_reply (length old) (check_table L v bs ms))) g.table
      ∙ ap (λ (o : Option Refusal). reply_answer (fitted_reply (length old) (check_state L k bs ms o))) g.state
      ∙ ap (λ (c : Checked). reply_answer (fitted_reply (length old) (reply_of k c))) e

  -- "the first index whose move is missing, not allowed or out of range"
  pub fails_call : (i : ℕ) (f : Fault) → Answer (Ok (check.Fails i f)) ↔ FirstFault L k s ms i f
  unfolding reply_of fitted_reply reply_answer
  fails_call i f = (
    λ e. let r = right_at (Ok (check.Fails i f)) e in subst (λ (v : Table). FirstFault L v.task (start_of v bs) ms i f) (same_table r.given.table) r.first,
    λ h. answer_at ((fails_exactly L k s ms i f).1 h),
  )

  -- "or "goal not met""
  pub unmet_call : Answer (Ok check.GoalNotMet) ↔ Unmet L k s ms
  unfolding reply_of fitted_reply reply_answer
  unmet_call = (
    λ e. let r = right_at (Ok check.GoalNotMet) e in subst (λ (v : Table). Unmet L v.task (start_of v bs) ms) (same_table r.given.table) r.unmet,
    λ h. answer_at ((unmet_exactly L k s ms).1 h),
  )

  end : List ℕ
  end = state_bytes k.props k.vars (state_after k s ms)

  size : length end ≡ state_length
  unfolding end
  size = length_state_bytes k.props k.vars (state_after k s ms)

  passes_at : SolvesInRange L k s ms → check_from L k 0 s ms ≡ passes (state_after k s ms)
  passes_at h = (yes_exactly L k s ms (given_range g)).1 h

  -- "Yes holds exactly when the list solves the table and all its values stay within ±1,000,000"; its end state fits
  pub yes_call : Answer (Ok (check.Yes state_length)) ↔ (SolvesInRange L k s ms × (state_length ≤ length old))
  unfolding reply_of fitted_reply on_output reply_answer end
  yes_call = (
    λ e. let r = right_at (Ok (check.Yes state_length)) e in (subst (λ (v : Table). SolvesInRange L v.task (start_of v bs) ms) (same_table r.given.table) r.solves, r.fits),
    λ h. answer_at (passes_at h.0) ∙ rw (fitted_whole (length old) end (omega (arith, size, h.1))) (ap (λ (n : ℕ). Ok (check.Yes n)) size),
  )

  -- "too short a buffer for it is 13, last"
  pub short_call : Answer (Err (record { number = 13; place = 0 })) ↔ (SolvesInRange L k s ms × (length old < state_length))
  unfolding reply_of fitted_reply on_output reply_answer end
  short_call = (
    λ e. go refl (right_at (Err (record { number = 13; place = 0 })) e).0,
    λ h. answer_at (passes_at h.0) ∙ rw (fitted_short (length old) end (omega (arith, size, h.1))) refl,
  )
    where
      go : {r : Refusal} → r ≡ record { number = 13; place = 0 } → Back L t bs ms old (check_out L t bs ms old) r → SolvesInRange L k s ms × (length old < state_length)
      go is (of_table e) = absurd (not_refused e)
      go {r} is (of_state e f) =
          absurd
          (some-ne-none r (sym f ∙ ap (λ (v : Table). state_refusal L v.task.props v.task.vars bs) (same_table e) ∙ g.state))
      go is (short {w = v} h solved less) =
          subst (λ (v : Table). SolvesInRange L v.task (start_of v bs) ms × (length old < v.task.props + 4 * v.task.vars)) (same_table h.table) (solved, less)
