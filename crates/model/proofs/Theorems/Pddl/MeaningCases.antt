-- The meaning of PDDL 2.1 on forms that no table gives, where a wrong reading would show: an atom both added and deleted, two fluents
-- swapped, an atom that `:init` does not list. Assumes nothing.
use Rattle.std.specs.Prelude.{ℕ, ◌≡◌, refl, Bool, ◌||◌, List, [], ◌∷◌, eqb}
use Rattle.std.proofs.Common.{arith, sym, ap, subst, inl, inr, eqb→eq}
use Rattle.std.proofs.Math.Path.{ap₂}
use Rattle.std.proofs.Math.Bool.{true, false}
use Rattle.std.proofs.Math.Dec.{T, eqb_refl}
use Rattle.model.specs.Lists.{In}
use Rattle.model.specs.Task.{Kind, assign}
use Rattle.model.specs.Move.{State}
use Rattle.model.specs.Pddl.{Expression, fluent, Change, gain, lose, alter, given}
use Rattle.model.specs.PddlMeaning.{value_in, altered, Follows, Initial}
use Rattle.model.proofs.Theorems.Laws.Booleans.{not-false, or_left}
use Rattle.model.proofs.Theorems.Pddl.Changes.{not_gain, not_lose}

module _ (s : State) where
  -- (and (p0) (not (p0))): what is added is true, deleted or not
  unfoldable pub added_and_deleted : List Change
  added_and_deleted = gain 0 ∷ lose 0 ∷ []

  unfoldable pub with_first : State
  with_first = record { has = λ p. eqb 0 p || s.has p; val = s.val }

  pub add_wins : Follows s added_and_deleted with_first
  unfolding added_and_deleted with_first
  add_wins =
      record {
        gains = λ p i. or_left (eqb 0 p) (s.has p) (subst (λ (q : ℕ). T (eqb 0 q)) (sym (added p i)) (eqb_refl 0));
        loses = λ p i n t. n (inl (ap gain (deleted p i)));
        keeps = λ p n m. rw (not-false (eqb 0 p) (λ t. n (inl (ap gain (sym (eqb→eq 0 p t)))))) refl;
        alters = λ k v e i. absurd (no_alter k v e i);
        stays = λ v n. refl;
      }
    where
      added : (p : ℕ) → In (gain p) (gain 0 ∷ lose 0 ∷ []) → p ≡ 0
      added p (inl e) = cc
      added p (inr (inl e)) = cc
      added p (inr (inr x)) = elim x [ ]

      deleted : (p : ℕ) → In (lose p) (gain 0 ∷ lose 0 ∷ []) → p ≡ 0
      deleted p (inl e) = cc
      deleted p (inr (inl e)) = cc
      deleted p (inr (inr x)) = elim x [ ]

      no_alter : (k : Kind) (v : ℕ) (e : Expression) → In (alter k v e) (gain 0 ∷ lose 0 ∷ []) → ⊥
      no_alter k v e (inl h) = not_gain h
      no_alter k v e (inr (inl h)) = not_lose h
      no_alter k v e (inr (inr x)) = elim x [ ]

  -- (and (assign (v0) (v1)) (assign (v1) (v0))): each expression is read in the state before
  unfoldable pub swap : List Change
  swap = alter assign 0 (fluent 1) ∷ alter assign 1 (fluent 0) ∷ []

  unfoldable pub after_swap : State
  after_swap =
      record {
        has = s.has;
        val = λ v. elim (eqb 0 v) [ true ↦ s.val 1 | false ↦ elim (eqb 1 v) [ true ↦ s.val 0 | false ↦ s.val v ] ];
      }

  pub swaps : Follows s swap after_swap
  unfolding swap after_swap altered value_in
  swaps =
      record {
        gains = λ p i. absurd (no_gain p i);
        loses = λ p i n t. no_lose p i;
        keeps = λ p n m. refl;
        alters = alters_are;
        stays = λ v n.
            ap₂ (λ (a b : Bool). elim a [ true ↦ s.val 1 | false ↦ elim b [ true ↦ s.val 0 | false ↦ s.val v ] ])
            (not-false (eqb 0 v)
            (λ t. n assign (fluent 1) (inl (ap (λ (u : ℕ). alter assign u (fluent 1)) (sym (eqb→eq 0 v t))))))
            (not-false (eqb 1 v)
            (λ t. n assign (fluent 0) (inr (inl (ap (λ (u : ℕ). alter assign u (fluent 0)) (sym (eqb→eq 1 v t)))))));
      }
    where
      no_gain : (p : ℕ) → In (gain p) swap → ⊥
      no_gain p (inl h) = not_gain (sym h)
      no_gain p (inr (inl h)) = not_gain (sym h)
      no_gain p (inr (inr x)) = elim x [ ]

      no_lose : (p : ℕ) → In (lose p) swap → ⊥
      no_lose p (inl h) = not_lose (sym h)
      no_lose p (inr (inl h)) = not_lose (sym h)
      no_lose p (inr (inr x)) = elim x [ ]

      alters_are : (k : Kind) (v : ℕ) (e : Expression) → In (alter k v e) swap → after_swap.val v ≡ altered k (s.val v) (value_in s e)
      alters_are k v e (inl h) =
          let kind : k ≡ assign = cc in
          let name : v ≡ 0 = cc in
          let read : e ≡ fluent 1 = cc in
          rw (kind, name, read) refl
      alters_are k v e (inr (inl h)) =
          let kind : k ≡ assign = cc in
          let name : v ≡ 1 = cc in
          let read : e ≡ fluent 0 = cc in
          rw (kind, name, read) refl
      alters_are k v e (inr (inr x)) = elim x [ ]

  -- (:init (p0)): p1 is false
  pub unlisted_false : Initial (given 0 ∷ []) s → T (s.has 1) → ⊥
  unlisted_false i = i.others 1 only
    where
      only : In (given 1) (given 0 ∷ []) → ⊥
      only (inl e) = let z : ◌≡◌ {A = ℕ} 1 0 = cc in omega arith
      only (inr x) = elim x [ ]
