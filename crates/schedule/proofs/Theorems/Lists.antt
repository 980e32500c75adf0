-- What checking a list says of it: that every entry can be made and the goal holds in the state after them; the first entry that cannot be
-- made, with its fault; or that the goal fails at the end. A list of the first kind is one that solves the task and whose values all stay in
-- range. Assumes nothing.
use Prim.Native.Nat.{ℕ, zero, suc}
use Rattle.std.proofs.Common.{not-suc-le-zero, arith, ◌∙◌, subst}
use Rattle.std.specs.Prelude.{◌≡◌, Bool, length}
use Rattle.std.proofs.Math.Path.{refl, ap}
use Rattle.std.proofs.Math.Bool.{true, false}
use mathlib.Core.List.{List, [], ◌∷◌}
use Rattle.std.proofs.Math.Option.{Option, none, some}
use Rattle.std.proofs.Math.Dec.{T}
use Rattle.std.proofs.Math.Seq.{take-nil}
use Rattle.model.specs.Limits.{Limits}
use Rattle.model.specs.Task.{Task}
use Rattle.model.specs.Move.{State, applicable, real, move_at}
use Rattle.schedule.specs.declared.Fault.{Fault}
use Rattle.schedule.specs.Run.{state_after, ValuesInRange, InRange, SolvesInRange, CanMove}
use Rattle.schedule.specs.Check.{fault_of, Checked, passes, fails, unmet, goal_tested, check_move, check_from}
use Rattle.schedule.proofs.Theorems.Moves.{MoveRight, fault_right, fault_is}
use Rattle.schedule.specs.Theorems.Lists.{fault_at, Made, FirstFault, Unmet, Passed, ListRight}

module _ (L : Limits) (k : Task) where
  -- ---- one entry more in front

  module _ (s : State) (b : ℕ) (bs : List ℕ) (can : fault_of L k s b ≡ none) where
    abbrev to : State
    to = real (move_at k b) s

    made_more : (n : ℕ) → Made L k to bs n → Made L k s (b ∷ bs) (suc n)
    unfolding fault_at state_after
    made_more n h zero l = can
    made_more n h (suc i) l = h i (omega arith)

    made_less : (n : ℕ) → Made L k s (b ∷ bs) (suc n) → Made L k to bs n
    unfolding fault_at state_after
    made_less n h i l = h (suc i) (omega arith)

    first_more : {i : ℕ} {f : Fault} → FirstFault L k to bs i f → FirstFault L k s (b ∷ bs) (suc i) f
    unfolding fault_at state_after
    first_more {i} w = record { inside = omega (arith, w.inside); fault = w.fault; before = made_more i w.before }

    unmet_more : Unmet L k to bs → Unmet L k s (b ∷ bs)
    unfolding state_after
    unmet_more u = record { made = made_more (length bs) u.made; unmet = u.unmet }

    passed_more : {e : State} → Passed L k to bs e → Passed L k s (b ∷ bs) e
    unfolding state_after
    passed_more p = record { made = made_more (length bs) p.made; end = p.end; goal = p.goal }

  later_right :
      (i : ℕ) (s : State) (b : ℕ) (bs : List ℕ)
      → fault_of L k s b ≡ none
      → (c : Checked)
      → ListRight L k (suc i) (real (move_at k b) s) bs c
      → ListRight L k i s (b ∷ bs) c
  later_right i s b bs can (passes e) h = passed_more s b bs can h
  later_right i s b bs can (fails j f) h =
      record { entry = suc h.entry; is = omega (arith, h.is); first = first_more s b bs can h.first }
  later_right i s b bs can unmet h = unmet_more s b bs can h

  none_made : (s : State) (bs : List ℕ) → Made L k s bs 0
  none_made s bs i l = absurd (not-suc-le-zero l)

  pub check_right : (i : ℕ) (s : State) (bs : List ℕ) → ListRight L k i s bs (check_from L k i s bs)
  unfolding check_from goal_tested check_move state_after fault_at
  check_right i s [] = by_goal (applicable s k.goal) (λ t. t) (λ f. f)
    where
      by_goal :
          (t : Bool)
          → (T t → T (applicable s k.goal))
          → ((T t → ⊥) → T (applicable s k.goal) → ⊥)
          → ListRight L k i s [] (elim t [ true ↦ passes s | false ↦ unmet ])
      by_goal true met missed = record { made = none_made s []; end = refl; goal = met tt }
      by_goal false met missed = record { made = none_made s []; unmet = missed (λ x. x) }
  check_right i s (b ∷ bs) = by_fault (fault_of L k s b) refl (check_right (suc i) (real (move_at k b) s) bs)
    where
      by_fault :
          (o : Option Fault)
          → fault_of L k s b ≡ o
          → ListRight L k (suc i) (real (move_at k b) s) bs (check_from L k (suc i) (real (move_at k b) s) bs)
          → ListRight L k i s (b ∷ bs) (check_move i o (check_from L k (suc i) (real (move_at k b) s) bs))
      by_fault none e h = later_right i s b bs e (check_from L k (suc i) (real (move_at k b) s) bs) h
      by_fault (some f) e h =
          record { entry = 0; is = omega arith; first = record { inside = omega arith; fault = e; before = none_made s (b ∷ bs) } }

  -- ---- "Yes holds exactly when the list solves the table and all its values stay within ±1,000,000."

  made_first : (s : State) (b : ℕ) (bs : List ℕ) → Made L k s (b ∷ bs) (suc (length bs)) → fault_of L k s b ≡ none
  unfolding fault_at state_after
  made_first s b bs m = m 0 (omega arith)

  -- where every entry can be made, the goal is tested after the last
  pub made_checked : (i : ℕ) (s : State) (bs : List ℕ) → Made L k s bs (length bs) → check_from L k i s bs ≡ goal_tested k (state_after k s bs)
  unfolding check_from check_move state_after
  made_checked i s [] made = refl
  made_checked i s (b ∷ bs) made =
      let can = made_first s b bs made in
      let to = real (move_at k b) s in
      ap (λ (o : Option Fault). check_move i o (check_from L k (suc i) to bs)) can
      ∙ made_checked (suc i) to bs (made_less s b bs can (length bs) made)

  -- entry b can be made where it has no fault
  pub can : (s : State) (b : ℕ) → fault_of L k s b ≡ none → CanMove L k s b
  can s b e = subst (MoveRight L k s b) e (fault_right L k s b)

  pub passed_solves :
      (s : State) (bs : List ℕ)
      → ValuesInRange L k s
      → Made L k s bs (length bs)
      → T (applicable (state_after k s bs) k.goal)
      → SolvesInRange L k s bs
  unfolding state_after
  passed_solves s [] start made goal = record { solves = goal; range = λ i l. rw (take-nil {A = ℕ} i) start }
  passed_solves s (b ∷ bs) start made goal =
      let none_here : fault_of L k s b ≡ none = made_first s b bs made in
      let m : CanMove L k s b = can s b none_here in
      let later = passed_solves (real (move_at k b) s) bs m.range (made_less s b bs none_here (length bs) made) goal in
      record {
        solves = (m.known, m.allowed, later.solves);
        range = ranges later.range;
      }
    where
      ranges : InRange L k (real (move_at k b) s) bs → InRange L k s (b ∷ bs)
      ranges r zero l = start
      ranges r (suc i) l = r i (omega arith)

  pub solves_passed : (s : State) (bs : List ℕ) → SolvesInRange L k s bs → Passed L k s bs (state_after k s bs)
  unfolding state_after
  solves_passed s [] h = record { made = none_made s []; end = refl; goal = h.solves }
  solves_passed s (b ∷ bs) h =
      passed_more s b bs
      (fault_is L k s b none (record { known = h.solves.0; allowed = h.solves.1; range = first bs h.range }))
      (solves_passed (real (move_at k b) s) bs (record { solves = h.solves.2; range = λ i l. h.range (suc i) (omega arith) }))
    where
      first : (cs : List ℕ) → InRange L k s (b ∷ cs) → ValuesInRange L k (real (move_at k b) s)
      first cs r = r 1 (omega arith)
