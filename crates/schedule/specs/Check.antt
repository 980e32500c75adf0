-- Checking a list of moves against a written table and a state (document 02, request 9): the answer and what the output holds afterwards.
-- That a yes means what the request says is proved in `Theorems`. Assumes nothing.
use Rattle.std.specs.Prelude.{ℕ, suc, true, false, List, [], ◌∷◌, ltb, length, Result, Ok, Err}
use Rattle.std.proofs.Math.Option.{Option, none, some}
use Rattle.model.specs.declared.Refusal.{Refusal}
use Rattle.model.specs.Limits.{Limits}
use Rattle.model.specs.Lists.{all_below}
use Rattle.model.specs.Task.{written, Block, Task}
use Rattle.model.specs.Reading.{Verdict, accepted, refused, only, reading}
use Rattle.model.specs.Move.{State, applicable, real, move_at}
use Rattle.model.specs.StateTable.{state_of, state_refusal, state_bytes, value_in_range}
use Rattle.model.specs.Memory.{overwrite}
use Rattle.model.specs.Calls.{writes, on_output, fitted}
use Rattle.schedule.specs.declared.Fault.{Fault}
use Rattle.schedule.specs.declared.Fault.TheVariants as fault
use Rattle.schedule.specs.declared.CheckAnswer.{CheckAnswer}
use Rattle.schedule.specs.declared.CheckAnswer.TheVariants as check

-- ---- one move

-- "out of range": a value of the state that a move leads to
unfoldable pub range_fault : Limits → ℕ → State → Option Fault
range_fault L vars s = elim (all_below (λ v. value_in_range L (s.val v)) vars) [ true ↦ none | false ↦ some fault.OutOfRange ]

-- "not allowed": "A real move needs its conditions true"
unfoldable pub block_fault : Limits → ℕ → State → Block → Option Fault
block_fault L vars s b = elim (applicable s b) [ true ↦ range_fault L vars (real b s) | false ↦ some fault.NotAllowed ]

-- "missing, not allowed or out of range": what keeps move b from being made, in the order of step's 10, 11 and 12
unfoldable pub fault_of : Limits → Task → State → ℕ → Option Fault
fault_of L k s b = elim (ltb b (length k.moves)) [ true ↦ block_fault L k.vars s (move_at k b) | false ↦ some fault.Missing ]

-- step's refusals
unfoldable pub fault_number : Fault → ℕ
fault_number fault.Missing = 10
fault_number fault.NotAllowed = 11
fault_number fault.OutOfRange = 12

-- ---- a list

-- yes with the end state; the first index with its fault; or "goal not met"
pub data Checked : Type 0 where
  passes : State → Checked
  fails : ℕ → Fault → Checked
  unmet : Checked

unfoldable pub goal_tested : Task → State → Checked
goal_tested k s = elim (applicable s k.goal) [ true ↦ passes s | false ↦ unmet ]

unfoldable pub check_move : ℕ → Option Fault → Checked → Checked
check_move i (some f) rest = fails i f
check_move i none rest = rest

-- the entries from index i on, in state s
unfoldable pub check_from : Limits → Task → ℕ → State → List ℕ → Checked
check_from L k i s [] = goal_tested k s
check_from L k i s (b ∷ bs) = check_move i (fault_of L k s b) (check_from L k (suc i) (real (move_at k b) s) bs)

-- ---- the call

-- yes with the bytes of the end state, or another answer: "Only a yes writes the end state"
pub data Reply : Type 0 where
  yes_with : List ℕ → Reply
  other : Result CheckAnswer Refusal → Reply

unfoldable pub reply_of : Task → Checked → Reply
reply_of k (passes s) = yes_with (state_bytes k.props k.vars s)
reply_of k (fails i f) = other (Ok (check.Fails i f))
reply_of k unmet = other (Ok check.GoalNotMet)

unfoldable pub check_state : Limits → Task → List ℕ → List ℕ → Option Refusal → Reply
check_state L k bs ms (some r) = other (Err r)
check_state L k bs ms none = reply_of k (check_from L k 0 (state_of k.props bs) ms)

-- "a written table, a state and a list of move bytes"
unfoldable pub check_table : Limits → Verdict → List ℕ → List ℕ → Reply
check_table L (refused r) bs ms = other (Err r)
check_table L (accepted k) bs ms = check_state L k.task bs ms (state_refusal L k.task.props k.task.vars bs)

-- "too short a buffer for it is 13, last"
unfoldable pub fitted_reply : ℕ → Reply → Reply
fitted_reply size (yes_with bs) = on_output (fitted size (writes bs)) yes_with (λ r. other (Err r))
fitted_reply size (other a) = other a

unfoldable pub checking : Limits → List ℕ → List ℕ → List ℕ → ℕ → Reply
checking L t bs ms size = fitted_reply size (check_table L (reading L (only written) t) bs ms)

unfoldable pub reply_answer : Reply → Result CheckAnswer Refusal
reply_answer (yes_with bs) = Ok (check.Yes (length bs))
reply_answer (other a) = a

unfoldable pub reply_out : Reply → List ℕ → List ℕ
reply_out (yes_with bs) out = overwrite bs out
reply_out (other a) out = out

unfoldable pub check_answer : Limits → List ℕ → List ℕ → List ℕ → List ℕ → Result CheckAnswer Refusal
check_answer L t bs ms out = reply_answer (checking L t bs ms (length out))

unfoldable pub check_out : Limits → List ℕ → List ℕ → List ℕ → List ℕ → List ℕ
check_out L t bs ms out = reply_out (checking L t bs ms (length out)) out
