-- The answer of the checker with what its output holds afterwards: by the goal, by the list, by the checks of state and table.
-- Assumes nothing.
use Rattle.std.specs.Prelude.{ℕ, ◌≤◌, ◌≡◌, Bool, List, ℤ, length, Result, Ok, Err}
use Rattle.std.proofs.Math.Path.{refl, sym, ap, ap₂}
use Rattle.std.proofs.Common.{◌∙◌, subst}
use Rattle.std.proofs.Math.Bool.{true, false}
use Rattle.std.proofs.Math.Option.{none, some}
use Rattle.model.specs.declared.Refusal.{Refusal}
use Rattle.model.specs.Limits.{paper}
use Rattle.model.specs.Task.{written, Block}
use Rattle.model.specs.Move.{State, applicable}
use Rattle.model.specs.Reading.{Verdict, refused, only, reading}
use Rattle.model.specs.StateTable.{state_of, state_refusal, state_bytes}
use Rattle.model.specs.Calls.{Output, writes, turns, on_output, fitted, write_answer, output_after}
use Rattle.schedule.specs.declared.Fault.{Fault}
use Rattle.schedule.specs.declared.CheckAnswer.{CheckAnswer}
use Rattle.schedule.specs.declared.CheckAnswer.TheVariants as check
use Rattle.schedule.specs.Run.{state_after}
use Rattle.schedule.specs.Check.{Checked, passes, unmet, goal_tested, check_from, Reply, yes_with, other, reply_of, check_state, check_table, fitted_reply, checking, reply_answer, reply_out, check_answer, check_out}
use Rattle.schedule.specs.Theorems.Lists.{Made, FirstFault}
use Rattle.schedule.proofs.Theorems.Lists.{made_checked}
use Rattle.schedule.proofs.Theorems.Exactly.{fails_exactly}
use Rattle.schedule.specs.Theorems.Answers.{CheckRight}
use Rattle.schedule.proofs.Theorems.Answers.{answer_right}
use Rattle.state.specs.Storing.{state_in}
use Rattle.table.specs.Outlines.{part_at}
use Rattle.block.specs.Items.{Left}
use Rattle.block.specs.Parts.{goal_left}
use Rattle.block.specs.Blocks.{IsApplicable}
use Rattle.block.specs.Blocks as blocks
use Rattle.output.specs.Answers.{Answered}
use Rattle.real_move.specs.Moving.{ranges_of, Holds, holds_state}
use Rattle.transition.specs.Turns.{Read}
use Rattle.transition.specs.Steps.{put_same}

-- p is the reply, 13 apart
pub record Replied (p : Reply) (old new : List ℕ) (r : Result CheckAnswer Refusal) : Type 0 where
  pub answer : r ≡ reply_answer (fitted_reply (length old) p)
  pub output : new ≡ reply_out (fitted_reply (length old) p) old

pub replied_same : {p q : Reply} {old new : List ℕ} {r : Result CheckAnswer Refusal} → Replied p old new r → p ≡ q → Replied q old new r
replied_same {old = old} {new} {r} a e = subst (λ (x : Reply). Replied x old new r) e a

-- an answer that is no yes
pub replied_other : {p : Reply} (old : List ℕ) {a : Result CheckAnswer Refusal} → p ≡ other a → Replied p old old a
unfolding fitted_reply reply_answer reply_out
replied_other old {a} e = replied_same {p = other a} {old = old} (record { answer = refl; output = refl }) (sym e)

-- ---- the goal

-- goal g stands in the part, behind its first byte
abbrev pub GoalIn : List ℕ → ℕ → ℕ → Block → Type 0
GoalIn part props vars g = Left (ranges_of props vars) part 1 g

-- some goal stands there, and the arrays hold some state that can be stored
pub record Testable (part : List ℕ) (props vars : ℕ) (has : List Bool) (values : List ℤ) : Type 0 where
  pub few_props : props ≤ 120
  pub few_vars : vars ≤ 16
  pub goal : Block
  pub stands : GoalIn part props vars goal
  pub over : State
  pub holds : Holds props vars has values over

-- the reply in the state after the list, of a task with this goal
unfoldable pub end_reply : ℕ → ℕ → Block → State → Reply
end_reply props vars g s = elim (applicable s g) [ true ↦ yes_with (state_bytes props vars s) | false ↦ other (Ok check.GoalNotMet) ]

-- a yes from the length that is stored, or 13
unfoldable answer_as : Result ℕ Refusal → Result CheckAnswer Refusal
answer_as (Ok n) = Ok (check.Yes n)
answer_as (Err r) = Err r

-- in every reading
pub record Tested (part : List ℕ) (props vars : ℕ) (has : List Bool) (values : List ℤ) (old new : List ℕ) (r : Result CheckAnswer Refusal) : Type 0 where
  pub is : (g : Block) (s : State) → GoalIn part props vars g → Holds props vars has values s → Replied (end_reply props vars g s) old new r

by_output : (old bs : List ℕ) → Replied (yes_with bs) old (output_after (fitted (length old) (writes bs)) old) (answer_as (write_answer (fitted (length old) (writes bs))))
unfolding answer_as fitted_reply reply_answer reply_out on_output write_answer output_after
by_output old bs = go (fitted (length old) (writes bs)) refl
  where
    go : (o : Output) → fitted (length old) (writes bs) ≡ o → Replied (yes_with bs) old (output_after o old) (answer_as (write_answer o))
    go (writes cs) e = record { answer = sym (rw e refl); output = sym (rw e refl) }
    go (turns r) e = record { answer = sym (rw e refl); output = sym (rw e refl) }

module _ {part : List ℕ} {props vars : ℕ} {has : List Bool} {values : List ℤ} where
  pub goal_testable : Testable part props vars has values → blocks.Testable part has values
  goal_testable m =
      record { ranges = ranges_of props vars; block = m.goal; over = m.over; left = m.stands; row = holds_state m.holds }

  module _ {t : Bool} (q : IsApplicable part has values t) (old : List ℕ) where
    goal_applicable : {g : Block} {s : State} → GoalIn part props vars g → Holds props vars has values s → t ≡ applicable s g
    goal_applicable {g} {s} l w = q.is (ranges_of props vars) g s l (holds_state w)

    -- "goal not met"
    pub tested_unmet : t ≡ false → Tested part props vars has values old old (Ok check.GoalNotMet)
    unfolding end_reply
    tested_unmet e = record { is = λ g s l w. replied_other old (rw (end_reply, sym (goal_applicable l w) ∙ e) refl) }

    -- what is stored, or 13
    module _ (met : t ≡ true) {new : List ℕ} {a : Result ℕ Refusal} (stored : Answered (writes (state_bytes props vars (state_in has values))) old new a) where
      end_is : {g : Block} {s : State} → GoalIn part props vars g → Holds props vars has values s → yes_with (state_bytes props vars (state_in has values)) ≡ end_reply props vars g s
      unfolding end_reply
      end_is l w = ap yes_with (put_same w) ∙ sym (rw (end_reply, sym (goal_applicable l w) ∙ met) refl)

      tested : {r : Result CheckAnswer Refusal} → r ≡ answer_as a → Tested part props vars has values old new r
      tested e =
          let bs = state_bytes props vars (state_in has values) in
          record {
            is = λ g s l w.
                replied_same
                (rw (e, stored.answer, stored.output) (by_output old bs))
                (end_is l w);
          }

      pub tested_yes : {n : ℕ} → a ≡ Ok n → Tested part props vars has values old new (Ok (check.Yes n))
      unfolding answer_as
      tested_yes e = tested (sym (ap answer_as e))

      pub tested_short : {r : Refusal} → a ≡ Err r → Tested part props vars has values old new (Err r)
      unfolding answer_as
      tested_short e = tested (sym (ap answer_as e))

-- ---- the list, the state and the table

module _ {t marks : List ℕ} {props vars moves : ℕ} (h : Read t marks props vars moves) (bs ms : List ℕ) where
  -- what the call replies on an accepted table
  reply_is : check_table paper (reading paper (only written) t) bs ms ≡ check_state paper h.table.task bs ms (state_refusal paper props vars bs)
  unfolding check_table
  reply_is =
      ap (λ (v : Verdict). check_table paper v bs ms) h.is
      ∙ ap₂ (λ (p n : ℕ). check_state paper h.table.task bs ms (state_refusal paper p n bs)) (sym h.props_is) (sym h.vars_is)

  -- the state is refused
  pub reply_state : {q : Refusal} → state_refusal paper props vars bs ≡ some q → check_table paper (reading paper (only written) t) bs ms ≡ other (Err q)
  unfolding check_state
  reply_state e = reply_is ∙ ap (check_state paper h.table.task bs ms) e

  module _ (e : state_refusal paper props vars bs ≡ none) {c : Checked} (l : check_from paper h.table.task 0 (state_of props bs) ms ≡ c) where
    reply_checked : check_table paper (reading paper (only written) t) bs ms ≡ reply_of h.table.task c
    unfolding check_state
    reply_checked =
        let k = h.table.task in
        reply_is
        ∙ ap (check_state paper k bs ms) e
        ∙ ap (λ (p : ℕ). reply_of k (check_from paper k 0 (state_of p bs) ms)) (sym h.props_is)
        ∙ ap (reply_of k) l

  -- an entry cannot be made
  pub reply_fails :
      state_refusal paper props vars bs ≡ none
      → {i : ℕ} {f : Fault}
      → FirstFault paper h.table.task (state_of props bs) ms i f
      → check_table paper (reading paper (only written) t) bs ms ≡ other (Ok (check.Fails i f))
  unfolding reply_of
  reply_fails e {i} {f} w = reply_checked e ((fails_exactly paper h.table.task (state_of props bs) ms i f).1 w)

  -- all can
  pub reply_end :
      state_refusal paper props vars bs ≡ none
      → Made paper h.table.task (state_of props bs) ms (length ms)
      → let k = h.table.task in
      end_reply props vars k.goal (state_after k (state_of props bs) ms) ≡ check_table paper (reading paper (only written) t) bs ms
  unfolding reply_of end_reply goal_tested
  reply_end e made =
      let k = h.table.task in
      let s = state_after k (state_of props bs) ms in
      ap₂ (λ (p n : ℕ). end_reply p n k.goal s) h.props_is h.vars_is
      ∙ by_goal s (applicable s k.goal)
      ∙ sym (reply_checked e (made_checked paper k 0 (state_of props bs) ms made))
    where
      by_goal :
          (s : State) (b : Bool)
          → let k = h.table.task in
          elim b [ true ↦ yes_with (state_bytes k.props k.vars s) | false ↦ other (Ok check.GoalNotMet) ]
          ≡ reply_of k (elim b [ true ↦ passes s | false ↦ unmet ])
      by_goal s true = refl
      by_goal s false = refl

  -- the goal's part
  pub goal_in : {part : List ℕ} → part ≡ part_at t marks moves → GoalIn part props vars h.table.task.goal
  goal_in f =
      rw (f, h.count, h.props_is, h.vars_is) (goal_left h.outline.ok h.outline.goal)

-- ---- the call

pub reply_table : (t bs ms : List ℕ) {q : Refusal} → reading paper (only written) t ≡ refused q → check_table paper (reading paper (only written) t) bs ms ≡ other (Err q)
unfolding check_table
reply_table t bs ms e = ap (λ (v : Verdict). check_table paper v bs ms) e

pub check_replied :
    (t bs ms : List ℕ) {old new : List ℕ} {r : Result CheckAnswer Refusal}
    → Replied (check_table paper (reading paper (only written) t) bs ms) old new r
    → (r ≡ check_answer paper t bs ms old) × (new ≡ check_out paper t bs ms old) × CheckRight paper t bs ms old new r
unfolding check_answer check_out checking
check_replied t bs ms {old} {new} {r} a =
    (a.answer, a.output, rw (a.answer, a.output) (answer_right paper t bs ms old))
