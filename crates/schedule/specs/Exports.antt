-- The answer as one 64-bit number and a further one, for hosts in C (`Rattle.model.specs.Exports`): bits 32 to 63 the refusal's number, 0 if
-- accepted; bits 0 to 31 the place, or the length of a yes, or bit 31 and below it 0 ("goal not met") or the number of a fault. A list may
-- have any length, so that an index may need more than 32 bits: it is a number of its own. Assumes nothing.
use Rattle.std.specs.Prelude.{ℕ, ◌+◌, ◌-◌, ◌^◌, true, false, eqb, leb, Result, Ok, Err}
use Rattle.model.specs.Exports.{refusal_code, apart}
use Rattle.schedule.specs.declared.Fault.{Fault}
use Rattle.schedule.specs.declared.Fault.TheVariants as fault
use Rattle.schedule.specs.declared.CheckAnswer.{CheckAnswer}
use Rattle.schedule.specs.declared.CheckAnswer.TheVariants as check
use Rattle.schedule.specs.Check.{fault_number}
use Rattle.model.specs.declared.Refusal.{Refusal}

unfoldable pub check_code : Result CheckAnswer Refusal → ℕ
check_code (Ok (check.Yes n)) = n
check_code (Ok (check.Fails i f)) = 2 ^ 31 + fault_number f
check_code (Ok check.GoalNotMet) = 2 ^ 31
check_code (Err r) = refusal_code r

-- the index, which every answer without a fault leaves as it was
unfoldable pub check_index : Result CheckAnswer Refusal → ℕ → ℕ
check_index (Ok (check.Yes n)) old = old
check_index (Ok (check.Fails i f)) old = i
check_index (Ok check.GoalNotMet) old = old
check_index (Err r) old = old

-- ---- the answer from the two numbers

unfoldable pub fault_apart : ℕ → Fault
fault_apart n = elim (eqb n 10) [ true ↦ fault.Missing | false ↦ elim (eqb n 11) [ true ↦ fault.NotAllowed | false ↦ fault.OutOfRange ] ]

unfoldable pub no_apart : ℕ → ℕ → Result CheckAnswer Refusal
no_apart i n = elim (eqb n 0) [ true ↦ Ok check.GoalNotMet | false ↦ Ok (check.Fails i (fault_apart n)) ]

unfoldable pub check_apart : ℕ → ℕ → Result CheckAnswer Refusal
check_apart c i =
    apart (λ n. elim (leb (2 ^ 31) n) [ true ↦ no_apart i (n - 2 ^ 31) | false ↦ Ok (check.Yes n) ]) (λ r. Err r) c
