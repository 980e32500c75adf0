-- What the items of a move that are left do to a proposition and to a variable (document 01, "Moves"). Assumes nothing.
use Rattle.std.specs.Prelude.{ℕ, ◌≡◌, Bool, true, ◌&&◌, ◌||◌, List, [], ◌∷◌, T, eqb, ℤ, get_or, set}
use Rattle.std.proofs.Common.{arith, sym, ◌∙◌, eq-eqb, ne_eqb, eqb→eq, get_or-set_other}
use Rattle.std.proofs.Math.Path.{refl, ap}
use Rattle.std.proofs.Math.Bool.{false, not}
use Rattle.std.proofs.Math.Option.{Option, none, some}
use Rattle.model.specs.Lists.{any}
use Rattle.model.specs.Task.{Effect, need, add, delete, condition, effect, Block, is_add, is_delete, adds, deletes, effect_on, clashes}
use Rattle.model.specs.Move.{State, value, changed, changed_by}
use Rattle.model.proofs.Theorems.Laws.Booleans.{not-false}

-- ---- named once

absent : (a b : Bool) → T (not (a || b)) → (a ≡ false) × T (not b)
absent true b t = absurd t
absent false b t = (refl, t)

differ : (a b : ℕ) → eqb a b ≡ false → eqb b a ≡ false
differ a b e = not-false (eqb b a) (λ t. clash (eqb a b) (eq-eqb a b (sym (eqb→eq b a t))) e)
  where
    clash : (x : Bool) → x ≡ true → x ≡ false → ⊥
    clash x p q = let z : ◌≡◌ {A = Bool} true false = sym p ∙ q in let w : ◌≡◌ {A = ℕ} 0 1 = cc in omega arith

-- what is added once is not deleted
pub not_deleted : (p : ℕ) (b : Block) → T (not (any (clashes (add p)) b)) → deletes p b ≡ false
unfolding deletes any is_delete clashes
not_deleted p [] t = refl
not_deleted p (need q ∷ b) t = not_deleted p b t
not_deleted p (add q ∷ b) t = not_deleted p b (absent (eqb p q) (any (clashes (add p)) b) t).1
not_deleted p (delete q ∷ b) t =
    let h = absent (eqb p q) (any (clashes (add p)) b) t in
    rw (differ p q h.0) (not_deleted p b h.1)
not_deleted p (condition c ∷ b) t = not_deleted p b t
not_deleted p (effect e ∷ b) t = not_deleted p b t

-- a variable has no second effect
pub no_effect : (e : Effect) (b : Block) → T (not (any (clashes (effect e)) b)) → effect_on e.var b ≡ none
unfolding any clashes effect_on
no_effect e [] t = refl
no_effect e (need q ∷ b) t = no_effect e b t
no_effect e (add q ∷ b) t = no_effect e b t
no_effect e (delete q ∷ b) t = no_effect e b t
no_effect e (condition c ∷ b) t = no_effect e b t
no_effect e (effect f ∷ b) t =
    let h = absent (eqb e.var f.var) (any (clashes (effect e)) b) t in
    rw (differ e.var f.var h.0, effect_on) (no_effect e b h.1)

-- ---- what the items that are left do

-- to proposition p, which is h so far
unfoldable pub truth_after : Bool → ℕ → Block → Bool
truth_after h p b = adds p b || (h && not (deletes p b))

-- to variable v, which is z so far
unfoldable pub value_after : State → ℕ → Option Effect → ℤ → ℤ
value_after s v none z = z
value_after s v (some e) z = changed e.kind (s.val v) (value s e)

pub value_start : (s : State) (v : ℕ) (o : Option Effect) → changed_by s v o ≡ value_after s v o (s.val v)
unfolding changed_by value_after
value_start s v none = refl
value_start s v (some e) = refl

or-true : (b : Bool) → (b || true) ≡ true
or-true true = refl
or-true false = refl

and-false : (b : Bool) → (b && false) ≡ false
and-false true = refl
and-false false = refl

module _ (h : Bool) (p q : ℕ) (b : Block) where
  pub truth_need : truth_after h p (need q ∷ b) ≡ truth_after h p b
  unfolding truth_after adds deletes any is_add is_delete
  truth_need = refl

  pub truth_add : T (not (any (clashes (add q)) b)) → q ≡ p → truth_after h p (add q ∷ b) ≡ truth_after true p b
  unfolding truth_after adds deletes any is_add is_delete
  truth_add t e =
      let d : deletes p b ≡ false = ap (λ (n : ℕ). deletes n b) (sym e) ∙ not_deleted q b t in
      rw (eq-eqb q p e) (sym (ap (λ (x : Bool). adds p b || (true && not x)) d ∙ or-true (adds p b)))

  pub truth_add_other : (q ≡ p → ⊥) → truth_after h p (add q ∷ b) ≡ truth_after h p b
  unfolding truth_after adds deletes any is_add is_delete
  truth_add_other e = rw (ne_eqb q p e) refl

  pub truth_delete : q ≡ p → truth_after h p (delete q ∷ b) ≡ truth_after false p b
  unfolding truth_after adds deletes any is_add is_delete
  truth_delete e = rw (eq-eqb q p e) (ap (λ (x : Bool). adds p b || x) (and-false h))

  pub truth_delete_other : (q ≡ p → ⊥) → truth_after h p (delete q ∷ b) ≡ truth_after h p b
  unfolding truth_after adds deletes any is_add is_delete
  truth_delete_other e = rw (ne_eqb q p e) refl

-- the effect on v comes first, or another
module _ (e : Effect) (v : ℕ) (b : Block) where
  pub effect_here : e.var ≡ v → effect_on v (effect e ∷ b) ≡ some e
  unfolding effect_on
  effect_here q = rw (eq-eqb e.var v q, effect_on) refl

  pub effect_other : (e.var ≡ v → ⊥) → effect_on v (effect e ∷ b) ≡ effect_on v b
  unfolding effect_on
  effect_other q = rw (ne_eqb e.var v q, effect_on) refl

-- a truth or a value in its array
pub at_other : {A : Type 0} (l : List A) (i j : ℕ) (x d : A) → (i ≡ j → ⊥) → get_or (set l i x) j d ≡ get_or l j d
at_other l i j x d e = get_or-set_other l i j x d (λ q. e (sym q))
