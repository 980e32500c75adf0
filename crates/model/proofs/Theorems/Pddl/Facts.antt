-- What stands in `:init`: each true proposition, each variable's value, and nothing else. Assumes nothing.
use Prim.Native.Nat.{ℕ, zero, suc, ◌+◌, ◌≤◌, ◌<◌}
use Rattle.std.proofs.Common.{arith, sym, ◌∙◌, inl, inr}
use Rattle.std.specs.Prelude.{◌≡◌, Bool, List, ◌∷◌, ◌++◌, ℤ}
use Rattle.std.proofs.Math.Path.{ap, subst}
use Rattle.std.proofs.Math.Logic.{⊎_elim}
use Rattle.std.proofs.Math.Bool.{true, false}
use Rattle.std.proofs.Math.Dec.{T}
use Rattle.model.specs.Lists.{In}
use Rattle.model.specs.Move.{State}
use Rattle.model.specs.Pddl.{Fact, given, equals, truths, values}
use Rattle.model.proofs.Theorems.Laws.Searching.{below_suc}
use Rattle.model.proofs.Theorems.Laws.Listed.{in_left, in_right, in_either, in_tabulate, tabulate_in}

-- ---- facts that are the same are of one kind, of one name and of one value

given_equals : {p v : ℕ} {z : ℤ} → given p ≡ equals v z → ⊥
given_equals e = let z : ◌≡◌ {A = ℕ} 0 1 = cc in omega arith

given_name : {p q : ℕ} → given p ≡ given q → p ≡ q
given_name e = cc

equals_name : {u v : ℕ} {y z : ℤ} → equals u y ≡ equals v z → u ≡ v
equals_name e = cc

equals_value : {u v : ℕ} {y z : ℤ} → equals u y ≡ equals v z → y ≡ z
equals_value e = cc

-- ---- the true propositions
module _ (s : State) where
  -- the first of the propositions is listed where it is true
  pub truths_first :
      (P : List Fact → Type 0) (p n : ℕ)
      → (T (s.has p) → P (given p ∷ truths s (suc p) n))
      → ((T (s.has p) → ⊥) → P (truths s (suc p) n))
      → P (truths s p (suc n))
  unfolding truths
  truths_first P p n f g = go (s.has p) f g
    where
      go :
          (b : Bool)
          → (T b → P (given p ∷ truths s (suc p) n))
          → ((T b → ⊥) → P (truths s (suc p) n))
          → P (elim b [ true ↦ given p ∷ truths s (suc p) n | false ↦ truths s (suc p) n ])
      go true f g = f tt
      go false f g = g (λ t. t)

  in_truths : (p n i : ℕ) → p ≤ i → i < p + n → T (s.has i) → In (given i) (truths s p n)
  in_truths p zero i h k t = absurd (omega arith)
  in_truths p (suc n) i h k t =
      below_suc p i (omega arith) (λ l. later (in_truths (suc p) n i (omega arith) (omega arith) t))
      (λ e.
      truths_first (In (given i)) p n (λ yes-p. inl (ap given (sym e)))
      (λ no-p. absurd (no-p (subst (λ (j : ℕ). T (s.has j)) (sym e) t))))
    where
      later : In (given i) (truths s (suc p) n) → In (given i) (truths s p (suc n))
      later t = truths_first (In (given i)) p n (λ yes-p. inr t) (λ no-p. t)

  truths_in :
      {X : Type 0} (x : Fact) (p n : ℕ)
      → In x (truths s p n)
      → ((i : ℕ) → i < p + n → x ≡ given i → T (s.has i) → X)
      → X
  truths_in x p zero = λ t g. absurd (unfold truths in t)
  truths_in {X} x p (suc n) =
      truths_first (λ l. In x l → ((i : ℕ) → i < p + suc n → x ≡ given i → T (s.has i) → X) → X) p n
      (λ yes-p t g.
      ⊎_elim (λ e. g p (omega arith) e yes-p) (λ u. truths_in x (suc p) n u (λ i h. g i (omega arith))) t)
      (λ no-p t g. truths_in x (suc p) n t (λ i h. g i (omega arith)))

  -- ---- `:init`

  module _ (props vars : ℕ) where
    abbrev pub facts : List Fact
    facts = truths s 0 props ++ values s vars

    -- a true proposition is listed, and what is listed is true
    pub in_given : (p : ℕ) → p < props → T (s.has p) → In (given p) facts
    in_given p h t = in_left (given p) (truths s 0 props) (values s vars) (in_truths 0 props p (omega arith) (omega arith) t)

    pub given_in : (p : ℕ) → In (given p) facts → (p < props) × T (s.has p)
    unfolding values
    given_in p t =
        in_either (given p) (truths s 0 props) (values s vars) t
        (λ u.
        truths_in (given p) 0 props u
        (λ i h e true-i. (omega (arith, given_name e), subst (λ (j : ℕ). T (s.has j)) (sym (given_name e)) true-i)))
        (λ u. tabulate_in (λ v. equals v (s.val v)) (given p) 0 vars u (λ j h e. absurd (given_equals e)))

    -- each variable's value is listed, and no other
    pub in_equals : (v : ℕ) → v < vars → In (equals v (s.val v)) facts
    unfolding values
    in_equals v h =
        in_right (equals v (s.val v)) (truths s 0 props) (values s vars)
        (in_tabulate (λ u. equals u (s.val u)) 0 vars v (omega arith) (omega arith))

    pub equals_in : (v : ℕ) (z : ℤ) → In (equals v z) facts → (v < vars) × (z ≡ s.val v)
    unfolding values
    equals_in v z t =
        in_either (equals v z) (truths s 0 props) (values s vars) t
        (λ u. truths_in (equals v z) 0 props u (λ i h e true-i. absurd (given_equals (sym e))))
        (λ u.
        tabulate_in (λ j. equals j (s.val j)) (equals v z) 0 vars u
        (λ j h e. (omega (arith, equals_name e), equals_value e ∙ ap s.val (sym (equals_name e)))))
