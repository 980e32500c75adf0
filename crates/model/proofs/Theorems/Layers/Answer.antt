-- What `outcome` means: it is `reached t` exactly if t is the answer layer, `Reached`, and `exhausted t` exactly if there is "no plan"
-- with t, `Exhausted`; there is one such t; the reported layers keep within the bound; and with "no plan" no list solves the relaxed
-- task. Assumes nothing.
use Prim.Native.Nat.{ℕ, suc, ◌≤◌, ◌<◌}
use Rattle.std.specs.Prelude.{◌≡◌, ◌↔◌, Bool, cond, List, T, length}
use Rattle.std.proofs.Math.Path.{refl}
use Rattle.std.proofs.Common.{sym, ap, ◌∙◌, subst, true≢false, lt_of_not-le, le_of_suc-le-suc, le_antisymm, arith}
use Rattle.std.proofs.Math.Bool.{true, false}
use Rattle.std.proofs.Math.Option.{none, some}
use Rattle.model.specs.Limits.{Limits}
use Rattle.model.specs.Task.{normal, Task}
use Rattle.model.specs.Move.{State, relaxed, Solves}
use Rattle.model.specs.Layer.{meets_goal, EqualNext, Passed, Reached, Exhausted, Outcome, reached, exhausted, reported, settled, stops, outcome_at, bound, first_stop, outcome}
use Rattle.model.specs.Theorems.Reading.WellFormed.{TaskOk}
use Rattle.model.proofs.Theorems.Laws.Booleans.{T_true, true_t, not-false, false_not, T-stable, or_left, or_right, or_cases}
use Rattle.model.proofs.Theorems.Laws.Searching.{below_suc, first_from_cases}
use Rattle.model.proofs.Theorems.Layers.Settled.{settled_equal}
use Rattle.model.proofs.Theorems.Layers.Relaxation.{no_plan}
use Rattle.model.proofs.Theorems.Layers.Bound.{layers_bound}
use Rattle.model.specs.Theorems.Layers.Answer.{Answered}

-- ---- there is one right answer
module _ {k : Task} {s : State} where
  -- a layer where building stops is not passed
  not_passed : {t u : ℕ} → Passed k s t → (meets_goal k s u ≡ false → (EqualNext k s u → ⊥) → ⊥) → t ≤ u
  not_passed {u} p stop = le_of_suc-le-suc (lt_of_not-le (λ h. stop (p.unmet u h) (p.unequal u h)))

  reached_stops : {t : ℕ} → Reached k s t → meets_goal k s t ≡ false → (EqualNext k s t → ⊥) → ⊥
  reached_stops a unmet unequal = true≢false (sym a.met ∙ unmet)

  exhausted_stops : {t : ℕ} → Exhausted k s t → meets_goal k s t ≡ false → (EqualNext k s t → ⊥) → ⊥
  exhausted_stops a unmet unequal = unequal a.equal

  not_both : {t u : ℕ} → Reached k s t → Exhausted k s u → ⊥
  not_both {t} {u} a b =
      let e : t ≡ u = le_antisymm (not_passed a.passed (exhausted_stops b)) (not_passed b.passed (reached_stops a)) in
      true≢false (sym a.met ∙ ap (meets_goal k s) e ∙ b.unmet)

pub answered_unique : (k : Task) (s : State) (o p : Outcome) → Answered k s o → Answered k s p → o ≡ p
answered_unique k s (reached t) (reached u) a b =
    ap reached (le_antisymm (not_passed a.passed (reached_stops b)) (not_passed b.passed (reached_stops a)))
answered_unique k s (reached t) (exhausted u) a b = absurd (not_both a b)
answered_unique k s (exhausted t) (reached u) a b = absurd (not_both b a)
answered_unique k s (exhausted t) (exhausted u) a b =
    ap exhausted (le_antisymm (not_passed a.passed (exhausted_stops b)) (not_passed b.passed (exhausted_stops a)))

-- ---- layers passed, by the tests
pub passed_none : {k : Task} {s : State} → Passed k s 0
passed_none = record { unmet = λ u h. absurd (omega arith); unequal = λ u h. absurd (omega arith) }

pub passed_next : {k : Task} {s : State} {t : ℕ} → Passed k s t → meets_goal k s t ≡ false → (EqualNext k s t → ⊥) → Passed k s (suc t)
passed_next {k} {s} {t} p unmet unequal =
    record {
      unmet = λ u h. below_suc u t h (p.unmet u) (λ e. ap (meets_goal k s) e ∙ unmet);
      unequal = λ u h. below_suc u t h (p.unequal u) (λ e same. unequal (subst (EqualNext k s) e same));
    }

module _ {L : Limits} {k : Task} (ok : TaskOk L normal k) (s : State) where
  pub unsettled_unequal : (t : ℕ) → settled k s t ≡ false → EqualNext k s t → ⊥
  unsettled_unequal t unsettled same = true≢false (sym ((settled_equal ok s t).1 same) ∙ unsettled)

  -- only so many layers can be passed
  pub passed_bound : {t : ℕ} → Passed k s t → t ≤ bound (length k.moves) k.vars
  passed_bound {t} p =
      layers_bound ok s t
      (λ u h. not-false (settled k s u) (λ same. p.unequal u h ((settled_equal ok s u).0 (T_true (settled k s u) same))))

  -- ---- and `outcome` is it

  unstopped_passed : (t : ℕ) → ((u : ℕ) → u < t → T (stops k s u) → ⊥) → Passed k s t
  unfolding stops
  unstopped_passed t never =
      record {
        unmet = λ u h. not-false (meets_goal k s u) (λ met. never u h (or_left (meets_goal k s u) (settled k s u) met));
        unequal = λ u h same. never u h (or_right (meets_goal k s u) (settled k s u) (true_t ((settled_equal ok s u).1 same)));
      }

  stop_answered : (t : ℕ) → Passed k s t → (meets_goal k s t ≡ false → settled k s t ≡ true) → Answered k s (outcome_at k s t)
  unfolding outcome_at
  stop_answered t p stop = go (meets_goal k s t) refl
    where
      go : (b : Bool) → meets_goal k s t ≡ b → Answered k s (cond b (reached t) (exhausted t))
      go true e = record { passed = p; met = e }
      go false e = record { passed = p; unmet = e; equal = (settled_equal ok s t).0 (stop e) }

  -- the outcome is right: building stops at a layer within the bound
  pub answered : Answered k s (outcome k s)
  unfolding outcome first_stop stops
  answered =
      first_from_cases (stops k s) (λ o. Answered k s (outcome_at k s (elim o [ none ↦ last | some t ↦ t ]))) 0 last
      (λ t low high stop before.
      stop_answered t (unstopped_passed t (λ u h. before u (omega arith) h))
      (λ unmet. or_cases (meets_goal k s t) (settled k s t) stop (λ met. absurd (false_not unmet met)) (λ same. T_true (settled k s t) same)))
      (λ never.
      let p = unstopped_passed last (λ u h. never u (omega arith) (omega arith)) in
      stop_answered last p
      (λ unmet.
      T_true (settled k s last)
      (T-stable (settled k s last) (λ no. omega (arith, passed_bound (passed_next p unmet (unsettled_unequal last (not-false (settled k s last) no))))))))
    where
      last : ℕ
      last = bound (length k.moves) k.vars

  -- what holds of every right answer holds of the outcome
  pub outcome_cases :
      (P : Outcome → Type 0)
      → ((t : ℕ) → Reached k s t → P (reached t))
      → ((t : ℕ) → Exhausted k s t → P (exhausted t))
      → P (outcome k s)
  outcome_cases P found nothing = go (outcome k s) answered
    where
      go : (o : Outcome) → Answered k s o → P o
      go (reached t) a = found t a
      go (exhausted t) a = nothing t a

  -- a right answer, found in whatever way, is the outcome
  pub outcome_unique : (o : Outcome) → Answered k s o → outcome k s ≡ o
  outcome_unique o a = answered_unique k s (outcome k s) o answered a

  -- the outcome says exactly which layer is the answer layer,
  pub outcome_reached : (t : ℕ) → (outcome k s ≡ reached t) ↔ Reached k s t
  outcome_reached t = (λ e. subst (Answered k s) e answered, outcome_unique (reached t))

  -- and exactly where there is "no plan"
  pub outcome_exhausted : (t : ℕ) → (outcome k s ≡ exhausted t) ↔ Exhausted k s t
  outcome_exhausted t = (λ e. subst (Answered k s) e answered, outcome_unique (exhausted t))

  -- "Reported layers" are at most (A + N + 1) × (N + 1)
  pub reported_bound : reported (outcome k s) ≤ bound (length k.moves) k.vars
  unfolding reported
  reported_bound =
      outcome_cases (λ o. reported o ≤ bound (length k.moves) k.vars) (λ t a. passed_bound a.passed) (λ t a. passed_bound a.passed)

  -- "the answer is "no plan"": no list of relaxed moves, however long, solves the task
  pub exhausted_no_plan : (t : ℕ) → outcome k s ≡ exhausted t → (bs : List ℕ) → Solves relaxed k s bs → ⊥
  exhausted_no_plan t e bs solves =
      let a = (outcome_exhausted t).0 e in
      no_plan ok s t ((settled_equal ok s t).1 a.equal) a.unmet bs solves
