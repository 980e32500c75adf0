-- How many layers fit: the largest layer that so many numbers hold, for given P, A and N; what 14 and an answer say of the memory; decide
-- and plan under a ceiling start from a task within it. Assumes nothing.
use Rattle.std.specs.Prelude.{ℕ, suc, ◌+◌, ◌-◌, ◌*◌, ◌/◌, ◌<◌, ◌≤◌, refl, ◌↔◌, Bool, ◌||◌, List, length}
use Rattle.std.proofs.Common.{le-div_iff_mul-le, mul_comm, arith}
use Rattle.std.proofs.Math.Path.{◌≡◌, subst}
use Rattle.std.proofs.Math.Bool.{true, false}
use Rattle.std.proofs.Math.Option.{Option, none, some}
use Rattle.std.proofs.Math.Dec.{T, ltb, ltb→lt, nltb→le, not_T}
use Rattle.model.specs.declared.Refusal.{Refusal}
use Rattle.model.specs.Limits.{Limits, paper}
use Rattle.model.specs.Task.{Form, normal, Task}
use Rattle.model.specs.Move.{State}
use Rattle.model.specs.Layer.{Outcome, reported, outcome}
use Rattle.model.specs.Memory.{answered, stopped, room, wrong15, wrong14, refuses, stop_number, stop_at, build}
use Rattle.model.specs.NormalForm.{normal_state}
use Rattle.model.specs.StateTable.{state_of, state_refusal}
use Rattle.model.specs.Reading.{Table, Verdict, accepted, refused, only, reading}
use Rattle.model.specs.Calls.{Ready, ready, unready, ready_with, ready_of}
use Rattle.ceiling.specs.Ceiling.{Ceiling, seventeen, most_vars, beyond, under, reading_under, prepared_under}
use Rattle.model.specs.Theorems.Reading.WellFormed.{TaskOk}
use Rattle.model.proofs.Theorems.Reading.Accepted.{reading_head, reading_form, reading_task}
use Rattle.model.proofs.Theorems.Laws.Booleans.{T-cases, clash, or_right}
use Rattle.model.proofs.Theorems.Laws.Searching.{first_from_cases}
use Rattle.ceiling.proofs.Theorems.Full.{beneath_counts}
use Rattle.ceiling.specs.Theorems.Fitting.{last_fitting}

-- "P + A + N × (L + 1)" numbers, exactly for the layers up to it
pub fits_exactly :
    (numbers props moves vars L : ℕ) → 0 < vars → props + moves + vars ≤ numbers
    → (props + moves + vars * (L + 1) ≤ numbers) ↔ (L ≤ last_fitting numbers props moves vars)
unfolding last_fitting
fits_exactly numbers props moves vars L some-var first =
    let m = numbers - (props + moves) in
    let turn : vars * (L + 1) ≡ (L + 1) * vars = mul_comm vars (L + 1) in
    let divides : ((L + 1) ≤ m / vars) ↔ ((L + 1) * vars ≤ m) = le-div_iff_mul-le some-var in
    let one-row : ((1 ≤ m / vars) ↔ (1 * vars ≤ m)) = le-div_iff_mul-le some-var in
    let one : 1 ≤ m / vars = one-row.1 (omega arith) in (
      λ fits. let more : (L + 1) ≤ m / vars = divides.1 (omega arith) in omega arith,
      λ within. let most : (L + 1) * vars ≤ m = divides.0 (omega arith) in omega arith,
    )

-- so the first layer that does not fit is the next one
pub first_unfitting :
    (numbers props moves vars m : ℕ) → 0 < vars → props + moves + vars ≤ numbers
    → numbers < props + moves + vars * (m + 1)
    → ((u : ℕ) → u < m → props + moves + vars * (u + 1) ≤ numbers)
    → m ≡ last_fitting numbers props moves vars + 1
first_unfitting numbers props moves vars m some-var first short before =
    let last = last_fitting numbers props moves vars in
    T-cases (ltb last m)
    (λ past.
    let beyond-last : last < m = ltb→lt last m past in
    T-cases (ltb (last + 1) m)
    (λ further.
    let fits = before (last + 1) (ltb→lt (last + 1) m further) in
    let less : last + 1 ≤ last = (fits_exactly numbers props moves vars (last + 1) some-var first).0 fits in
    absurd (omega arith))
    (λ next. omega (arith, nltb→le (last + 1) m (not_T (ltb (last + 1) m) next))))
    (λ within.
    let fits = (fits_exactly numbers props moves vars m some-var first).1 (nltb→le last m (not_T (ltb last m) within)) in
    absurd (omega arith))

-- ---- what building says of the memory
module _ (L : Limits) (k : Task) (s : State) (size : ℕ) where
  -- a layer that is not refused fits
  stored_fits : (t : ℕ) → (T (refuses L k s size t) → ⊥) → room k t ≤ size
  unfolding wrong14
  stored_fits t stored =
      nltb→le size (room k t) (not_T (ltb size (room k t)) (λ short. stored (or_right (wrong15 L k s t) (ltb size (room k t)) short)))

  -- 14 at a layer: the memory is too short for it, and holds every layer before it
  pub record StoppedShort (m : ℕ) : Type 0 where
    pub short : size < room k m
    pub before : (u : ℕ) → u < m → room k u ≤ size
    pub reports : m ≤ reported (outcome k s)

  pub stopped_short : (m : ℕ) → build L k s size ≡ stopped 14 m → StoppedShort m
  unfolding build stop_at wrong14 stop_number
  stopped_short m e =
      first_from_cases (refuses L k s size) (λ (f : Option ℕ). stop_at L k s f (outcome k s) ≡ stopped 14 m → StoppedShort m) 0
      (suc (reported (outcome k s)))
      (λ t low high bad before. by_number t (omega arith) (wrong15 L k s t) bad (λ u h. before u (omega arith) h))
      (λ never same. clash cc) e
    where
      by_number :
          (t : ℕ) → t ≤ reported (outcome k s) → (b : Bool) → T (b || ltb size (room k t))
          → ((u : ℕ) → u < t → T (refuses L k s size u) → ⊥)
          → stopped (stop_number b) t ≡ stopped 14 m
          → StoppedShort m
      by_number t within true bad before same = let z : ◌≡◌ {A = ℕ} 15 14 = cc in absurd (omega arith)
      by_number t within false bad before same =
          let here : t ≡ m = cc in
          subst StoppedShort here
          (record { short = ltb→lt size (room k t) bad; before = λ u h. stored_fits u (before u h); reports = within })

  -- an answer: the memory holds all its layers
  pub answered_fits : (o : Outcome) → build L k s size ≡ answered o → room k (reported (outcome k s)) ≤ size
  unfolding build stop_at wrong14
  answered_fits o e =
      first_from_cases (refuses L k s size) (λ (f : Option ℕ). stop_at L k s f (outcome k s) ≡ answered o → room k (reported (outcome k s)) ≤ size)
      0 (suc (reported (outcome k s)))
      (λ t low high bad before same. clash cc)
      (λ never same. stored_fits (reported (outcome k s)) (never (reported (outcome k s)) (omega arith) (omega arith))) e

-- ---- under a ceiling
-- decide and plan start from a task within the ceiling, or turn back
pub prepared_under_cases :
    (C : Ceiling) (P : Ready → Type 0) (t bs : List ℕ)
    → ((k : Task) (s : State) → TaskOk paper normal k → length k.moves ≤ C.moves → k.vars ≤ 2 * C.vars → P (ready k s))
    → ((r : Refusal) → P (unready r))
    → P (prepared_under C paper t bs)
unfolding prepared_under reading_under under ready_of ready_with most_vars
prepared_under_cases C P t bs go back = by_verdict (reading paper (only normal) t) refl
  where
    by_state :
        (w : Table) → TaskOk paper normal w.task → length w.task.moves ≤ C.moves → w.task.vars ≤ 2 * C.vars
        → (r : Option Refusal) → P (ready_with w.task bs r)
    by_state w ok moves vars none = go w.task (normal_state (state_of w.task.props bs)) ok moves vars
    by_state w ok moves vars (some r) = back r

    by_test :
        (w : Table) → reading paper (only normal) t ≡ accepted w → (b : Bool) → beyond C w.header ≡ b
        → P (ready_of paper (elim b [ true ↦ refused seventeen | false ↦ accepted w ]) bs)
    by_test w e true h = back seventeen
    by_test w e false h =
        let counts = reading_head paper (only normal) t e in
        let within = beneath_counts C w.header h in
        let vars : w.header.vars ≤ 2 * C.vars = subst (λ (f : Form). w.header.vars ≤ most_vars C f) (reading_form paper normal t e) within.1 in
        by_state w (reading_task paper normal t e) (omega (arith, within.0, counts.2)) (omega (arith, vars, counts.1))
        (state_refusal paper w.task.props (w.task.vars / 2) bs)

    by_verdict : (v : Verdict) → reading paper (only normal) t ≡ v → P (ready_of paper (under C v) bs)
    by_verdict (accepted w) e = by_test w e (beyond C w.header) refl
    by_verdict (refused r) e = back r
