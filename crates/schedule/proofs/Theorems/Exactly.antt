-- Which answer checking a list gives, exactly. Assumes nothing.
use Rattle.std.specs.Prelude.{ℕ, ◌≤◌, ◌<◌, ◌≡◌, refl, ◌↔◌, List, ltb}
use Rattle.std.proofs.Common.{zero-add, arith, sym, ap, ap₂, ◌∙◌, subst, ltb→lt, nltb→le}
use Rattle.std.proofs.Math.Option.{some, some-injective, some-ne-none}
use Rattle.std.proofs.Math.Dec.{not_T}
use Rattle.model.specs.Limits.{Limits}
use Rattle.model.specs.Task.{Task}
use Rattle.model.specs.Move.{State}
use Rattle.schedule.specs.declared.Fault.{Fault}
use Rattle.schedule.specs.Run.{state_after, ValuesInRange, SolvesInRange}
use Rattle.schedule.specs.Check.{Checked, passes, fails, unmet, check_from}
use Rattle.schedule.specs.Theorems.Lists.{fault_at, Made, FirstFault, Unmet, Passed, FailsFrom, ListRight}
use Rattle.schedule.proofs.Theorems.Lists.{check_right, passed_solves, solves_passed}

not_less : (i j : ℕ) → (i < j → ⊥) → j ≤ i
not_less i j h = nltb→le i j (not_T (ltb i j) (λ t. h (ltb→lt i j t)))

module _ (L : Limits) (k : Task) (s : State) (bs : List ℕ) where
  abbrev Answer : Checked → Type 0
  Answer c = check_from L k 0 s bs ≡ c

  right_at : (c : Checked) → Answer c → ListRight L k 0 s bs c
  right_at c e = subst (ListRight L k 0 s bs) e (check_right L k 0 s bs)

  -- an entry with a fault is not among those that can be made
  at_fault : {i n : ℕ} {f : Fault} → fault_at L k s bs i ≡ some f → Made L k s bs n → i < n → ⊥
  at_fault {i} {n} {f} e made l = some-ne-none f (sym e ∙ made i l)

  -- there is one first entry with a fault
  one_first : {i j : ℕ} {f g : Fault} → FirstFault L k s bs i f → FirstFault L k s bs j g → (i ≡ j) × (f ≡ g)
  one_first {i} {j} {f} {g} a b =
      let same : i ≡ j = omega (arith, not_less i j (at_fault a.fault b.before), not_less j i (at_fault b.fault a.before)) in
      (same, some-injective f g (sym a.fault ∙ ap (fault_at L k s bs) same ∙ b.fault))

  pub fails_first : {j : ℕ} {f : Fault} → FailsFrom L k 0 s bs j f → FirstFault L k s bs j f
  fails_first {f} h = subst (λ (n : ℕ). FirstFault L k s bs n f) (sym (h.is ∙ zero-add h.entry)) h.first

  -- "the first index whose move is missing, not allowed or out of range"
  pub fails_exactly : (i : ℕ) (f : Fault) → Answer (fails i f) ↔ FirstFault L k s bs i f
  fails_exactly i f = (λ e. fails_first (right_at (fails i f) e), λ h. go h (check_from L k 0 s bs) refl (check_right L k 0 s bs))
    where
      go : FirstFault L k s bs i f → (c : Checked) → Answer c → ListRight L k 0 s bs c → Answer (fails i f)
      go h (passes e) a right = absurd (at_fault h.fault right.made h.inside)
      go h (fails j g) a right = let same = one_first (fails_first right) h in a ∙ ap₂ fails same.0 same.1
      go h unmet a right = absurd (at_fault h.fault right.made h.inside)

  -- "or "goal not met""
  pub unmet_exactly : Answer unmet ↔ Unmet L k s bs
  unmet_exactly = (λ e. right_at unmet e, λ h. go h (check_from L k 0 s bs) refl (check_right L k 0 s bs))
    where
      go : Unmet L k s bs → (c : Checked) → Answer c → ListRight L k 0 s bs c → Answer unmet
      go h (passes e) a right = absurd (h.unmet right.goal)
      go h (fails j g) a right = let w = fails_first right in absurd (at_fault w.fault h.made w.inside)
      go h unmet a right = a

  -- "Yes holds exactly when the list solves the table and all its values stay within ±1,000,000", with the state after the list
  pub yes_exactly : ValuesInRange L k s → Answer (passes (state_after k s bs)) ↔ SolvesInRange L k s bs
  yes_exactly start = (
    λ e. let p = right_at (passes (state_after k s bs)) e in passed_solves L k s bs start p.made p.goal,
    λ h. go (solves_passed L k s bs h) (check_from L k 0 s bs) refl (check_right L k 0 s bs),
  )
    where
      go : Passed L k s bs (state_after k s bs) → (c : Checked) → Answer c → ListRight L k 0 s bs c → Answer (passes (state_after k s bs))
      go h (passes e) a right = a ∙ ap passes right.end
      go h (fails j g) a right = let w = fails_first right in absurd (at_fault w.fault h.made w.inside)
      go h unmet a right = absurd (right.unmet h.goal)

  -- whatever state a yes comes with, it is the state after the list
  pub yes_end : (e : State) → Answer (passes e) → e ≡ state_after k s bs
  yes_end e a = (right_at (passes e) a).end
