-- A checked list is a row of steps: up to the first entry that cannot be made, `step` leads from the bytes of each state to those of the
-- next, and at that entry it turns back with the fault's number. Assumes nothing.
use Prim.Native.Nat.{ℕ, zero, suc, ◌≤◌, ◌<◌}
use Rattle.std.proofs.Common.{not-suc-le-zero, arith, sym, ap₂, ◌∙◌}
use Rattle.std.specs.Prelude.{◌≡◌, length, take, Err}
use Rattle.std.proofs.Math.Path.{refl, ap}
use mathlib.Core.List.{List, [], ◌∷◌}
use Rattle.std.proofs.Math.Option.{Option, none, some}
use Rattle.std.proofs.Math.ListN.{get_or}
use Rattle.model.specs.Limits.{Limits, paper}
use Rattle.model.specs.Task.{written, Task}
use Rattle.model.specs.Reading.{Table, Verdict, only, reading}
use Rattle.model.specs.Move.{State, real, move_at}
use Rattle.model.specs.StateTable.{state_of, state_bytes}
use Rattle.model.specs.Calls.{writes, fitted, write_answer, output_after, step_with_state, step_of, stepped, step_answer, step_out}
use Rattle.model.specs.Theorems.Reading.WellFormed.{TaskOk}
use Rattle.model.proofs.Theorems.Reading.Accepted.{reading_task}
use Rattle.model.proofs.Theorems.Reading.Agreeing.{agree_bytes}
use Rattle.schedule.specs.declared.Fault.{Fault}
use Rattle.schedule.specs.Run.{state_after, ValuesInRange}
use Rattle.schedule.specs.Check.{fault_number}
use Rattle.schedule.specs.Theorems.Moves.{step_output}
use Rattle.schedule.proofs.Theorems.Moves.{step_fault}
use Rattle.schedule.specs.Theorems.Lists.{fault_at, Made, FirstFault}
use Rattle.schedule.proofs.Theorems.Lists.{can}
use Rattle.schedule.specs.Theorems.Answers.{Given, start_of}
use Rattle.schedule.proofs.Theorems.Answers.{given_range}
use Rattle.schedule.proofs.Theorems.Agreeing.{agree_fault, agree_moved, bytes_agree, bytes_right}

-- ---- the states of a run

module _ (L : Limits) (k : Task) where
  -- they are in range as far as the entries can be made
  pub made_range :
      (s : State) (bs : List ℕ) (n : ℕ)
      → ValuesInRange L k s
      → n ≤ length bs
      → Made L k s bs n
      → ValuesInRange L k (state_after k s (take n bs))
  unfolding state_after fault_at
  made_range s bs zero start l made = start
  made_range s [] (suc n) start l made = absurd (not-suc-le-zero l)
  made_range s (b ∷ bs) (suc n) start l made =
      made_range (real (move_at k b) s) bs n (can L k s b (made 0 (omega arith))).range (omega arith) (λ i h. made (suc i) (omega arith))

-- the state after one entry more
pub state_next : (k : Task) (s : State) (bs : List ℕ) (i : ℕ) → i < length bs → state_after k s (take (suc i) bs) ≡ real (move_at k (get_or bs i 0)) (state_after k s (take i bs))
unfolding state_after
state_next k s [] i l = absurd (not-suc-le-zero l)
state_next k s (b ∷ bs) zero l = refl
state_next k s (b ∷ bs) (suc i) l = state_next k (real (move_at k b) s) bs i (omega arith)

-- ---- step in the state before an entry
module _ {t bs : List ℕ} {w : Table} (g : Given paper t bs w) (ms : List ℕ) where
  abbrev k : Task
  k = w.task

  -- the state after the first i entries, and its bytes
  abbrev pub state_at : ℕ → State
  state_at i = state_after k (start_of w bs) (take i ms)

  abbrev pub bytes_at : ℕ → List ℕ
  bytes_at i = state_bytes k.props k.vars (state_at i)

  ok : TaskOk paper written k
  ok = reading_task paper written t g.table

  module _ (i : ℕ) (inside : i < length ms) (before : Made paper k (start_of w bs) ms i) where
    small : ValuesInRange paper k (state_at i)
    small = made_range paper k (start_of w bs) ms i (given_range g) (omega arith) before

    step_is : step_of paper (reading paper (only written) t) (bytes_at i) (get_or ms i 0) ≡ step_output (fault_at paper k (start_of w bs) ms i) (state_bytes k.props k.vars (real (move_at k (get_or ms i 0)) (state_of k.props (bytes_at i))))
    unfolding step_of fault_at
    step_is =
        let b = get_or ms i 0 in
        let after = state_bytes k.props k.vars (real (move_at k b) (state_of k.props (bytes_at i))) in
        ap (λ (v : Verdict). step_of paper v (bytes_at i) b) g.table
        ∙ ap (step_with_state paper k (bytes_at i) b) (bytes_right k (state_at i) small)
        ∙ step_fault paper k (bytes_at i) b
        ∙ ap (λ (o : Option Fault). step_output o after) (agree_fault ok (bytes_agree k (state_at i) small) b)

    -- at an entry that cannot be made, step turns back with the fault's number
    pub step_refuses : (f : Fault) → fault_at paper k (start_of w bs) ms i ≡ some f → (out : List ℕ) → step_answer paper t (bytes_at i) (get_or ms i 0) out ≡ Err (record { number = fault_number f; place = 0 })
    unfolding step_answer stepped fitted write_answer step_output
    step_refuses f e out =
        let after = state_bytes k.props k.vars (real (move_at k (get_or ms i 0)) (state_of k.props (bytes_at i))) in
        rw (step_is ∙ ap (λ (o : Option Fault). step_output o after) e) refl

    -- at one that can, it leads to the bytes of the next state
    pub step_leads :
        fault_at paper k (start_of w bs) ms i ≡ none
        → (out : List ℕ)
        → (step_answer paper t (bytes_at i) (get_or ms i 0) out ≡ write_answer (fitted (length out) (writes (bytes_at (suc i)))))
        × (step_out paper t (bytes_at i) (get_or ms i 0) out ≡ output_after (fitted (length out) (writes (bytes_at (suc i)))) out)
    unfolding step_answer step_out stepped step_output fault_at
    step_leads e out = (rw step_next refl, rw step_next refl)
      where
        b : ℕ
        b = get_or ms i 0

        known : b < length k.moves
        known = (can paper k (state_at i) b e).known

        same : state_bytes k.props k.vars (real (move_at k b) (state_of k.props (bytes_at i))) ≡ bytes_at (suc i)
        same =
            agree_bytes (agree_moved ok (bytes_agree k (state_at i) small) b known)
            ∙ ap (state_bytes k.props k.vars) (sym (state_next k (start_of w bs) ms i inside))

        step_next : step_of paper (reading paper (only written) t) (bytes_at i) b ≡ writes (bytes_at (suc i))
        step_next = step_is ∙ ap₂ step_output e same

  -- "the first index whose move is missing, not allowed or out of range": step's refusal in the state before it
  pub first_step : {i : ℕ} {f : Fault} → FirstFault paper k (start_of w bs) ms i f → (out : List ℕ) → step_answer paper t (bytes_at i) (get_or ms i 0) out ≡ Err (record { number = fault_number f; place = 0 })
  first_step {i} {f} h out = step_refuses i h.inside h.before f h.fault out
