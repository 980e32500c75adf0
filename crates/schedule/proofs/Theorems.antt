-- Theorems about checking a list, for any limits where no figure is named. The contract of `checker::check` carries `Answers.CheckRight`.
--   Exactly.yes_exactly: a yes exactly when the list solves the task and all its values stay in range, with the state after it (yes_end);
--   fails_exactly: the index is the first entry that cannot be made, with its fault; unmet_exactly: "goal not met".
--   Moves.fault_right, fault_is: what each fault says, exactly; step_fault, Steps.first_step, step_leads: it is what step refuses the move for
--   in the state before it, and up to there the list is a row of steps.
--   Answers.answer_right: every answer is right, whatever bytes are lent; Calls.yes_call, fails_call, unmet_call, short_call: which one is given.
--   Agreeing.agree_fault, agree_passes: states that agree below P and V are the same to the checker (and to every call:
--   `Rattle.model.proofs.Theorems.Reading.Agreeing`); bytes_agree, bytes_right: a state in range and its bytes.
--   NoPlan.yes_and_no_plan: where decide says "no plan" no list is a yes.
--   Codes.check_apart_lem: the answer's numbers can be taken apart; Cases.
-- Assumes nothing.
pub mod Moves
pub mod Lists
pub mod Exactly
pub mod Answers
pub mod Calls
pub mod Codes
pub mod Agreeing
pub mod Steps
pub mod NoPlan
pub mod Cases
