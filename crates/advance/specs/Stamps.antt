-- What an open block has named, kept as the number of the block that named each thing last: nothing is cleared when a block
-- opens. Assumes nothing.
use Rattle.std.specs.Prelude.{ℕ, ◌+◌, ◌≤◌, ◌<◌, ◌≡◌, Bool, true, false, ◌||◌, T, eqb, length, get_or, set, pos}
use Rattle.std.proofs.Common.{arith, ◌∙◌, subst, eqb→eq, length-set, get_or-set_same, get_or-set_other}
use Rattle.std.proofs.Math.Path.{refl, sym, ap}
use mathlib.Core.List.{List, [], ◌∷◌, ◌++◌}
use Rattle.std.proofs.Math.Dec.{eqb_refl}
use borrow.Author.Tests.{ne_eqb}
use Rattle.model.specs.Lists.{any}
use Rattle.model.specs.Task.{Item, need, add, delete, condition, effect, Effect, assign, Block, clashes}
use Rattle.model.proofs.Theorems.Laws.Booleans.{T-cases, T_true, not-false}

pub or-false : (b : Bool) → (b || false) ≡ b
or-false true = refl
or-false false = refl

pub or-true : (b : Bool) → (b || true) ≡ true
or-true true = refl
or-true false = refl

pub or_assoc : (a b c : Bool) → (a || b || c) ≡ (a || (b || c))
or_assoc true b c = refl
or_assoc false b c = refl

module _ {A : Type 0} (f : A → Bool) where
  pub any_snoc : (xs : List A) (x : A) → any f (xs ++ (x ∷ [])) ≡ (any f xs || f x)
  unfolding any
  any_snoc [] x = or-false (f x)
  any_snoc (y ∷ xs) x = ap (λ (b : Bool). f y || b) (any_snoc xs x) ∙ sym (or_assoc (f y) (any f xs) (f x))

pub any_same : {A : Type 0} (f g : A → Bool) → ((x : A) → f x ≡ g x) → (xs : List A) → any f xs ≡ any g xs
unfolding any
any_same f g e [] = refl
any_same f g e (x ∷ xs) = rw (e x, any_same f g e xs) refl

-- what an item names: a need, an added or deleted proposition, the variable of an effect
unfoldable pub needs : ℕ → Item → Bool
needs p j = clashes j (need p)

unfoldable pub changes : ℕ → Item → Bool
changes p j = clashes j (add p)

effect_of : ℕ → Effect
effect_of v = record { kind = assign; var = v; terms = []; base = pos 0 }

unfoldable pub affects : ℕ → Item → Bool
unfolding effect_of
affects v j = clashes j (effect (effect_of v))

-- each thing below n carries the block's number exactly if an item of the block names it
pub record Stamped (names : ℕ → Item → Bool) (n stamp : ℕ) (b : Block) (a : List ℕ) : Type 0 where
  pub size : length a ≡ n
  pub same : (p : ℕ) → eqb (get_or a p 0) stamp ≡ any (names p) b
  pub old : (p : ℕ) → get_or a p 0 ≤ stamp

module _ {names : ℕ → Item → Bool} {n stamp : ℕ} {b : Block} {a : List ℕ} (h : Stamped names n stamp b a) where
  -- a block opens
  pub stamped_new : Stamped names n (stamp + 1) [] a
  unfolding any
  stamped_new =
      record {
        size = h.size;
        same = λ p. ne_eqb (get_or a p 0) (stamp + 1) (λ e. omega (arith, h.old p));
        old = λ p. omega (arith, h.old p);
      }

  -- an item that names nothing of this kind
  pub stamped_other : (i : Item) → ((p : ℕ) → names p i ≡ false) → Stamped names n stamp (b ++ (i ∷ [])) a
  stamped_other i k =
      record {
        size = h.size;
        same = λ p. h.same p ∙ sym (any_snoc (names p) b i ∙ ap (λ (x : Bool). any (names p) b || x) (k p) ∙ or-false (any (names p) b));
        old = h.old;
      }

  -- an item that names q
  pub stamped_here : (i : Item) (q : ℕ) → ((p : ℕ) → names p i ≡ eqb q p) → q < n → Stamped names n stamp (b ++ (i ∷ [])) (set a q stamp)
  stamped_here i q k l =
      record {
        size = length-set a q stamp ∙ h.size;
        same = λ p. T-cases (eqb q p) (λ t. hit p (eqb→eq q p t)) (λ f. miss p f);
        old = λ p. T-cases (eqb q p) (λ t. hit_old p (eqb→eq q p t)) (λ f. miss_old p f);
      }
    where
      inside : q < length a
      inside = omega (arith, h.size)

      hit : (p : ℕ) → q ≡ p → eqb (get_or (set a q stamp) p 0) stamp ≡ any (names p) (b ++ (i ∷ []))
      hit p e =
          rw (← e, get_or-set_same a q stamp 0 inside)
          (T_true (eqb stamp stamp) (eqb_refl stamp)
          ∙ sym (any_snoc (names q) b i ∙ ap (λ (x : Bool). any (names q) b || x) (k q ∙ T_true (eqb q q) (eqb_refl q)) ∙ or-true (any (names q) b)))

      hit_old : (p : ℕ) → q ≡ p → get_or (set a q stamp) p 0 ≤ stamp
      hit_old p e = rw (← e, get_or-set_same a q stamp 0 inside) (omega arith)

      apart : (p : ℕ) → (T (eqb q p) → ⊥) → p ≡ q → ⊥
      apart p f e = f (subst (λ (x : ℕ). T (eqb q x)) (sym e) (eqb_refl q))

      miss : (p : ℕ) → (T (eqb q p) → ⊥) → eqb (get_or (set a q stamp) p 0) stamp ≡ any (names p) (b ++ (i ∷ []))
      miss p f =
          rw (get_or-set_other a q p stamp 0 (apart p f))
          (h.same p ∙ sym (any_snoc (names p) b i ∙ ap (λ (x : Bool). any (names p) b || x) (k p ∙ not-false (eqb q p) f) ∙ or-false (any (names p) b)))

      miss_old : (p : ℕ) → (T (eqb q p) → ⊥) → get_or (set a q stamp) p 0 ≤ stamp
      miss_old p f = rw (get_or-set_other a q p stamp 0 (apart p f)) (h.old p)

-- ---- as check 5 asks

pub needs_clash : (p : ℕ) (b : Block) → any (needs p) b ≡ any (λ j. clashes j (need p)) b
unfolding needs
needs_clash p b = refl

pub changes_add : (p : ℕ) (b : Block) → any (changes p) b ≡ any (λ j. clashes j (add p)) b
unfolding changes
changes_add p b = refl

pub changes_delete : (p : ℕ) (b : Block) → any (changes p) b ≡ any (λ j. clashes j (delete p)) b
changes_delete p b = any_same (changes p) (λ j. clashes j (delete p)) go b
  where
    go : (j : Item) → changes p j ≡ clashes j (delete p)
    go (need q) = unfold changes clashes in refl
    go (add q) = unfold changes clashes in refl
    go (delete q) = unfold changes clashes in refl
    go (condition d) = unfold changes clashes in refl
    go (effect f) = unfold changes clashes in refl

pub affects_effect : (e : Effect) (b : Block) → any (affects e.var) b ≡ any (λ j. clashes j (effect e)) b
affects_effect e b = any_same (affects e.var) (λ j. clashes j (effect e)) go b
  where
    go : (j : Item) → affects e.var j ≡ clashes j (effect e)
    go (need q) = unfold affects clashes in refl
    go (add q) = unfold affects clashes in refl
    go (delete q) = unfold affects clashes in refl
    go (condition d) = unfold affects clashes in refl
    go (effect f) = unfold affects clashes in refl
