-- The answer's two numbers, taken apart, are the answer: the length of a state takes less than 31 bits, and no refusal has the number 0.
-- Assumes nothing.
use Rattle.std.specs.Prelude.{ℕ, ◌+◌, ◌-◌, ◌^◌, ◌≤◌, ◌≡◌, refl, List, Result, Ok, Err}
use native.Mathlib.Omega.{arith}
use Rattle.std.proofs.Common.{◌∙◌, le-leb}
use Rattle.std.proofs.Math.Path.{subst}
use Rattle.std.proofs.lemmas.Bool.{lt-leb}
use Rattle.model.specs.declared.Refusal.{Refusal}
use Rattle.model.specs.Limits.{paper}
use Rattle.model.specs.Task.{written}
use Rattle.model.specs.Reading.{only}
use Rattle.model.specs.Theorems.Reading.WellFormed.{TaskOk}
use Rattle.model.proofs.Theorems.Reading.Accepted.{reading_task}
use Rattle.model.specs.Theorems.Reading.Places.{Small, IfSome, IfRefused, Full}
use Rattle.model.proofs.Theorems.Reading.Places.{small_wider, state_refused}
use Rattle.model.specs.Theorems.Sizes.Answers.{place_limit}
use Rattle.model.proofs.Theorems.Sizes.Answers.{table_refused}
use Rattle.model.proofs.Theorems.Campaigns.Codes.{result_apart, refusal_apart}
use Rattle.schedule.specs.declared.Fault.{Fault}
use Rattle.schedule.specs.declared.Fault.TheVariants as fault
use Rattle.schedule.specs.declared.CheckAnswer.{CheckAnswer}
use Rattle.schedule.specs.declared.CheckAnswer.TheVariants as check
use Rattle.schedule.specs.Check.{fault_number, check_answer, check_out}
use Rattle.schedule.specs.Exports.{check_code, check_index, fault_apart, no_apart, check_apart}
use Rattle.schedule.specs.Theorems.Answers.{Back, of_table, of_state, short, CheckRight}
use Rattle.schedule.proofs.Theorems.Answers.{answer_right}
use Rattle.schedule.specs.Theorems.Codes.{CheckSmall}

module _ (t bs ms old new : List ℕ) where
  back_small : {r : Refusal} → Back paper t bs ms old new r → Small place_limit r
  unfolding paper
  back_small {r} (of_table e) = subst (IfRefused (Small place_limit)) e (table_refused (only written) t)
  back_small {r} (of_state {w} e f) =
      let k = w.task in
      let ok : TaskOk paper written k = reading_task paper written t e in
      let small : Full _ r = subst (IfSome (Full _)) f (state_refused paper k.props k.vars bs) in
      small_wider (omega arith) (omega (arith, ok.props, ok.vars)) small
  back_small (short g solved less) = record { positive = omega arith; number = omega arith; place = omega arith }

  right_small : (r : Result CheckAnswer Refusal) → CheckRight paper t bs ms old new r → CheckSmall r
  unfolding paper
  right_small (Ok (check.Yes n)) right =
      let ok : TaskOk paper written right.table.task = reading_task paper written t right.given.table in
      omega (arith, right.size, ok.props, ok.vars)
  right_small (Ok (check.Fails i f)) right = tt
  right_small (Ok check.GoalNotMet) right = tt
  right_small (Err r) right = back_small right.0

pub check_small : (t bs ms out : List ℕ) → CheckSmall (check_answer paper t bs ms out)
check_small t bs ms out =
    right_small t bs ms out (check_out paper t bs ms out) (check_answer paper t bs ms out) (answer_right paper t bs ms out)

fault_back : (i : ℕ) (f : Fault) → no_apart i (fault_number f) ≡ Ok (check.Fails i f)
unfolding no_apart fault_apart fault_number
fault_back i fault.Missing = refl
fault_back i fault.NotAllowed = refl
fault_back i fault.OutOfRange = refl

pub fault_most : (f : Fault) → fault_number f ≤ 12
unfolding fault_number
fault_most fault.Missing = omega arith
fault_most fault.NotAllowed = omega arith
fault_most fault.OutOfRange = omega arith

-- an answer that is no yes, from the number below bit 31
no_back : (i n : ℕ) → n ≤ 12 → check_apart (2 ^ 31 + n) i ≡ no_apart i n
unfolding check_apart
no_back i n few =
    let code = 2 ^ 31 + n in
    let below : code - 2 ^ 31 ≡ n = omega arith in
    result_apart _ _ code (omega arith) ∙ rw (le-leb (2 ^ 31) code (omega arith), below) refl

-- an answer from its numbers; the index held x before
pub check_back : (a : Result CheckAnswer Refusal) → CheckSmall a → (x : ℕ) → check_apart (check_code a) (check_index a x) ≡ a
unfolding check_apart check_code check_index no_apart
check_back (Ok (check.Yes n)) small x = result_apart _ _ n (omega arith) ∙ rw (lt-leb (2 ^ 31) n (omega arith)) refl
check_back (Ok (check.Fails i f)) small x = no_back i (fault_number f) (fault_most f) ∙ fault_back i f
check_back (Ok check.GoalNotMet) small x = no_back x 0 (omega arith)
check_back (Err r) small x = refusal_apart _ _ r small

pub check_apart_lem : (t bs ms out : List ℕ) (x : ℕ) → let a = check_answer paper t bs ms out in check_apart (check_code a) (check_index a x) ≡ a
check_apart_lem t bs ms out x = check_back (check_answer paper t bs ms out) (check_small t bs ms out) x
