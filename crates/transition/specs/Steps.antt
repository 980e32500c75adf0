-- The answer of a step, by its checks: the table's, the state's, and what keeps the move from being made. Assumes nothing.
use Rattle.std.specs.Prelude.{ℕ, ◌≤◌, ◌<◌, ◌≡◌, Bool, false, List, [], ◌∷◌, ℤ, pos, length, get_or, Result, Ok, Err, MatchResult, IsErrAnd}
use Rattle.std.proofs.Common.{arith, ◌∙◌}
use Rattle.std.proofs.Math.Path.{sym, ap, ap₂}
use Rattle.std.proofs.Math.Option.{Option, none, some}
use Rattle.model.specs.declared.Refusal.{Refusal}
use Rattle.model.specs.Limits.{paper}
use Rattle.model.specs.Task.{written}
use Rattle.model.specs.Move.{State, real, move_at}
use Rattle.model.specs.Reading.{Verdict, refused, only, reading}
use Rattle.model.specs.Lists.{tabulate}
use Rattle.model.specs.Memory.{overwrite}
use Rattle.model.specs.StateTable.{state_of, state_value, state_refusal, state_bytes}
use Rattle.model.specs.Calls.{writes, turns, step_with_state, step_of, stepped, step_answer, step_out}
use Rattle.model.proofs.Theorems.Reading.States.{accepted_state, state_bytes_same}
use Rattle.schedule.specs.declared.Fault.{Fault}
use Rattle.schedule.specs.declared.Fault.TheVariants as fault
use Rattle.schedule.specs.Check.{fault_of, fault_number}
use Rattle.schedule.specs.Theorems.Moves.{step_output}
use Rattle.schedule.proofs.Theorems.Moves.{step_fault}
use Rattle.state.specs.Overwriting.{length_written, written_at}
use Rattle.state.specs.Storing.{state_in}
use Rattle.output.specs.Answers.{Answered}
use Rattle.real_move.specs.Moving.{Holds}
use Rattle.transition.specs.Turns.{Read, missing}
use Rattle.model.proofs.Theorems.Laws.Booleans.{clash}
use Rattle.real_move.specs.declared.RealState.{RealState}
use Rattle.transition.specs.declared.Stop.{Stop}
use Rattle.transition.specs.Entries.{AllMade, WalkedOut, one_fault, one_made, one_holds}

-- ---- loading

-- a table that was written over the start of an array
loaded :
    {A : Type 0} (f : ℕ → A) (n : ℕ) (old : List A) {new : List A} (d : A)
    → new ≡ overwrite (tabulate f 0 n) old
    → n ≤ length old
    → (length new ≡ length old) × ((j : ℕ) → j < n → get_or new j d ≡ f j)
loaded {A} f n old d e h =
    (ap length e ∙ length_written f old n h, λ j l. ap (λ (x : List A). get_or x j d) e ∙ written_at f old n j d l)

-- an accepted state, with counts that are none too large
pub record Loadable (bs : List ℕ) (props vars : ℕ) : Type 0 where
  pub accepted : state_refusal paper props vars bs ≡ none
  pub few_props : props ≤ 120
  pub few_vars : vars ≤ 16

-- the arrays that it is loaded into hold it
pub loaded_holds :
    {props vars : ℕ} (bs : List ℕ) (old : List Bool) (before : List ℤ) {has : List Bool} {values : List ℤ}
    → state_refusal paper props vars bs ≡ none
    → has ≡ overwrite (tabulate (state_of props bs).has 0 props) old
    → props ≤ length old
    → values ≡ overwrite (tabulate (state_value props bs) 0 vars) before
    → vars ≤ length before
    → Holds props vars has values (state_of props bs)
unfolding state_of paper
loaded_holds {props} {vars} bs old before e truths long given long_values =
    let h = loaded (state_of props bs).has props old false truths long in
    let v = loaded (state_value props bs) vars before (pos 0) given long_values in
    record {
      long_has = omega (arith, h.0);
      long_values = omega (arith, v.0);
      truths = h.1;
      same = v.1;
      small = λ v h. (accepted_state paper props vars bs e).values v h;
    }

-- what two arrays that hold a state give when they are stored
pub put_same :
    {props vars : ℕ} {has : List Bool} {values : List ℤ} {s : State}
    → Holds props vars has values s
    → state_bytes props vars (state_in has values) ≡ state_bytes props vars s
unfolding state_in
put_same {props} {vars} {has} {values} {s} w = state_bytes_same props vars (state_in has values) s w.truths w.same

-- the refusal of a move
abbrev pub refusal_of : Fault → Refusal
refusal_of f = record { number = fault_number f; place = 0 }

-- what a walk answers, with the fault of a stop refused
abbrev StopRefused : Result RealState Stop → Result RealState Refusal → Type 0
StopRefused r m = MatchResult r (λ after. m ≡ Ok after) (λ stop. IsErrAnd m (λ q. q ≡ refusal_of stop.fault))

pub not_stopped : (r : Result RealState Stop) {m : Result RealState Refusal} {after : RealState} → StopRefused r m → m ≡ Ok after → r ≡ Ok after
not_stopped (Ok other) {m} {after} is e = let same : other ≡ after = cc in ap Ok same
not_stopped (Err stop) is e = absurd (rw e at is)

module _ {t marks : List ℕ} {props vars moves : ℕ} (h : Read t marks props vars moves) (bs : List ℕ) (b : ℕ) where
  -- what the call answers on an accepted table
  answer_is : step_of paper (reading paper (only written) t) bs b ≡ step_with_state paper h.table.task bs b (state_refusal paper props vars bs)
  unfolding step_of
  answer_is =
      ap (λ (v : Verdict). step_of paper v bs b) h.is
      ∙ ap₂ (λ (p n : ℕ). step_with_state paper h.table.task bs b (state_refusal paper p n bs)) (sym h.props_is) (sym h.vars_is)

  -- the state is refused
  pub step_state_refused : {q : Refusal} → state_refusal paper props vars bs ≡ some q → step_of paper (reading paper (only written) t) bs b ≡ turns q
  unfolding step_with_state
  step_state_refused e = answer_is ∙ ap (step_with_state paper h.table.task bs b) e

  -- the state is accepted
  module _ (e : state_refusal paper props vars bs ≡ none) where
    by_fault :
        {o : Option Fault}
        → fault_of paper h.table.task (state_of props bs) b ≡ o
        → step_of paper (reading paper (only written) t) bs b ≡ step_output o (state_bytes props vars (real (move_at h.table.task b) (state_of props bs)))
    by_fault f =
        let k = h.table.task in
        answer_is
        ∙ ap (step_with_state paper k bs b) e
        ∙ step_fault paper k bs b
        ∙ ap₂ (λ (p n : ℕ). step_output (fault_of paper k (state_of p bs) b) (state_bytes p n (real (move_at k b) (state_of p bs)))) (sym h.props_is) (sym h.vars_is)
        ∙ ap (λ (x : Option Fault). step_output x (state_bytes props vars (real (move_at k b) (state_of props bs)))) f

    pub step_fails : {f : Fault} → fault_of paper h.table.task (state_of props bs) b ≡ some f → step_of paper (reading paper (only written) t) bs b ≡ turns (refusal_of f)
    unfolding step_output
    step_fails f = by_fault f

    pub step_missing : moves ≤ b → step_of paper (reading paper (only written) t) bs b ≡ turns (refusal_of fault.Missing)
    step_missing l = step_fails (missing h (state_of props bs) l)

    pub step_stopped :
        (r : Result RealState Stop) {m : Result RealState Refusal} {q : Refusal}
        → StopRefused r m
        → m ≡ Err q
        → WalkedOut t marks props vars moves bs (b ∷ []) r
        → step_of paper (reading paper (only written) t) bs b ≡ turns q
    step_stopped (Ok after) is s w = clash cc
    step_stopped (Err stop) is s w = rw (rw s at is) (step_fails (one_fault (w.is h)))

    pub step_made : {has : List Bool} {values : List ℤ} → AllMade props vars h.table.task (state_of props bs) (b ∷ []) has values → writes (state_bytes props vars (state_in has values)) ≡ step_of paper (reading paper (only written) t) bs b
    unfolding step_output
    step_made m = ap writes (put_same (one_holds m)) ∙ sym (by_fault (one_made m))

-- ---- the call

pub step_answered :
    (t bs : List ℕ) (b : ℕ) {old new : List ℕ} {r : Result ℕ Refusal}
    → Answered (step_of paper (reading paper (only written) t) bs b) old new r
    → (r ≡ step_answer paper t bs b old) × (new ≡ step_out paper t bs b old)
unfolding step_answer step_out stepped
step_answered t bs b a = (a.answer, a.output)

pub step_table_refused :
    (t bs : List ℕ) (b : ℕ) {q : Refusal}
    → reading paper (only written) t ≡ refused q
    → step_of paper (reading paper (only written) t) bs b ≡ turns q
unfolding step_of
step_table_refused t bs b e = ap (λ (v : Verdict). step_of paper v bs b) e
