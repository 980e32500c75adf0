-- The answer is right, whatever bytes are lent: a yes is a list that solves the table with all its values in range, and the state after it is
-- written; an index is the first entry that cannot be made, with its fault; refusals are those of table and state, and 13 where a yes does not
-- fit. Nothing but a yes writes. Assumes nothing.
use Prim.Native.Nat.{ℕ, ◌+◌, ◌*◌, ◌≤◌, ◌<◌}
use Rattle.std.proofs.Common.{arith, ap, ltb→lt}
use Rattle.std.specs.Prelude.{◌≡◌, Bool, true, false, T, ltb, length, Err}
use Rattle.std.proofs.Math.Path.{refl}
use mathlib.Core.List.{List}
use Rattle.std.proofs.Math.Option.{Option, none, some}
use Rattle.std.proofs.Math.Dec.{nltb→le, not_T}
use Rattle.model.specs.declared.Refusal.{Refusal}
use Rattle.model.specs.Limits.{Limits}
use Rattle.model.specs.Task.{written}
use Rattle.model.specs.Reading.{Table, Verdict, accepted, refused, only, reading}
use Rattle.model.specs.Move.{State}
use Rattle.model.specs.StateTable.{state_of, state_refusal, state_bytes}
use Rattle.model.specs.Memory.{overwrite}
use Rattle.model.specs.Calls.{writes, turns, on_output, fitted}
use Rattle.model.proofs.Theorems.Reading.States.{accepted_state, length_state_bytes}
use Rattle.schedule.specs.Run.{state_after, ValuesInRange, SolvesInRange}
use Rattle.schedule.specs.Check.{Checked, passes, fails, unmet, check_from, Reply, yes_with, other, reply_of, check_state, check_table, fitted_reply, checking, reply_answer, reply_out, check_answer, check_out}
use Rattle.schedule.specs.Theorems.Lists.{ListRight}
use Rattle.schedule.proofs.Theorems.Lists.{check_right, passed_solves}
use Rattle.schedule.proofs.Theorems.Exactly.{fails_first}
use Rattle.schedule.specs.Theorems.Answers.{Given, start_of, of_table, of_state, short, CheckRight}

-- an accepted state has its values in range
pub given_range : {L : Limits} {t bs : List ℕ} {w : Table} → Given L t bs w → ValuesInRange L w.task (start_of w bs)
unfolding state_of
given_range {L} {t} {bs} {w} g = (accepted_state L w.task.props w.task.vars bs g.state).values

-- ---- every answer is right
module _ (L : Limits) (t bs ms old : List ℕ) where
  abbrev ReplyRight : Reply → Type 0
  ReplyRight p = CheckRight L t bs ms old (reply_out p old) (reply_answer p)

  yes_right :
      {w : Table}
      → Given L t bs w
      → SolvesInRange L w.task (start_of w bs) ms
      → (e : State)
      → e ≡ state_after w.task (start_of w bs) ms
      → ReplyRight (fitted_reply (length old) (yes_with (state_bytes w.task.props w.task.vars e)))
  unfolding fitted_reply on_output fitted reply_out reply_answer
  yes_right {w} g solved e is =
      go (ltb (length old) n) (ltb→lt (length old) n) (λ f. nltb→le (length old) n (not_T (ltb (length old) n) f))
    where
      end : List ℕ
      end = state_bytes w.task.props w.task.vars e

      n : ℕ
      n = length end

      size : n ≡ w.task.props + 4 * w.task.vars
      size = length_state_bytes w.task.props w.task.vars e

      go :
          (b : Bool)
          → (T b → length old < n)
          → ((T b → ⊥) → n ≤ length old)
          → ReplyRight
          (on_output (elim b [ true ↦ turns (record { number = 13; place = 0 }) | false ↦ writes end ]) yes_with (λ r. other (Err r)))
      go true less more = (short g solved (omega (arith, less tt, size)), refl)
      go false less more =
          record {
            table = w;
            given = g;
            solves = solved;
            end = ap (λ (s : State). overwrite (state_bytes w.task.props w.task.vars s) old) is;
            size = size;
            fits = more (λ x. x);
          }

  list_right :
      {w : Table}
      → Given L t bs w
      → (c : Checked)
      → ListRight L w.task 0 (start_of w bs) ms c
      → ReplyRight (fitted_reply (length old) (reply_of w.task c))
  unfolding reply_of fitted_reply reply_out reply_answer
  list_right {w} g (passes e) p =
      yes_right g (passed_solves L w.task (start_of w bs) ms (given_range g) p.made p.goal) e p.end
  list_right {w} g (fails i f) p = record { table = w; given = g; first = fails_first L w.task (start_of w bs) ms p; kept = refl }
  list_right {w} g unmet p = record { table = w; given = g; unmet = p; kept = refl }

  pub answer_right : CheckRight L t bs ms old (check_out L t bs ms old) (check_answer L t bs ms old)
  unfolding check_out check_answer checking check_table check_state fitted_reply reply_out reply_answer
  answer_right = by_table (reading L (only written) t) refl
    where
      by_state :
          {w : Table}
          → reading L (only written) t ≡ accepted w
          → (o : Option Refusal)
          → state_refusal L w.task.props w.task.vars bs ≡ o
          → ReplyRight (fitted_reply (length old) (check_state L w.task bs ms o))
      by_state e (some r) f = (of_state e f, refl)
      by_state {w} e none f =
          list_right (record { table = e; state = f }) (check_from L w.task 0 (start_of w bs) ms) (check_right L w.task 0 (start_of w bs) ms)

      by_table : (v : Verdict) → reading L (only written) t ≡ v → ReplyRight (fitted_reply (length old) (check_table L v bs ms))
      by_table (refused r) e = (of_table e, refl)
      by_table (accepted w) e = by_state e (state_refusal L w.task.props w.task.vars bs) refl
