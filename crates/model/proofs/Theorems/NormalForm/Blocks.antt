-- Searches over two lists in a row, over a mapped list and over a normal block: what they come to for the parts, for the list
-- and for the block that it is the normal form of.
-- Assumes nothing.
use Rattle.std.specs.Prelude.{ℕ, zero, suc, ◌+◌, ◌*◌, ◌/◌, ◌%◌, ◌<◌, ◌≡◌, Bool, true, false, ◌&&◌, ◌||◌, T, eqb, ℤ}
use Rattle.std.proofs.Common.{arith, ◌∙◌, eq-eqb, eqb→eq}
use Rattle.std.proofs.Math.Path.{refl, sym, ap, fun_ext}
use Rattle.std.proofs.Math.Bool.{and_assoc, or_assoc, or-false}
use mathlib.Core.List.{List, [], ◌∷◌, ◌++◌, map}
use Rattle.model.specs.Lists.{all, any}
use Rattle.model.specs.Task.{Term, Comparison, at_least, above, at_most, below, equal, Condition, Kind, assign, increase, decrease, Effect, Item, need, add, delete, condition, effect, Block}
use Rattle.model.specs.NormalForm.{least, normal_condition, mirrored, normal_effect, normal_item, normal_block}
use Rattle.model.proofs.Theorems.Laws.Listed.{All-append}
use Rattle.model.proofs.Theorems.Laws.Booleans.{true_t, T-equal, and_left, and_right, and_both, or_left, or_right, or_cases}
use Rattle.model.specs.Theorems.Reading.WellFormed.{All}

-- ---- two lists in a row, and a list that is mapped

module _ {A : Type 0} (f : A → Bool) where
  pub all_append : (xs ys : List A) → all f (xs ++ ys) ≡ (all f xs && all f ys)
  unfolding all
  all_append [] ys = refl
  all_append (x ∷ xs) ys = ap (λ (b : Bool). f x && b) (all_append xs ys) ∙ sym (and_assoc (f x) (all f xs) (all f ys))

  pub any_append : (xs ys : List A) → any f (xs ++ ys) ≡ (any f xs || any f ys)
  unfolding any
  any_append [] ys = refl
  any_append (x ∷ xs) ys = ap (λ (b : Bool). f x || b) (any_append xs ys) ∙ sym (or_assoc (f x) (any f xs) (any f ys))

pub any_map : {A B : Type 0} (f : B → Bool) (g : A → B) (xs : List A) → any f (map g xs) ≡ any (λ x. f (g x)) xs
unfolding any
any_map f g [] = refl
any_map f g (x ∷ xs) = ap (λ (b : Bool). f (g x) || b) (any_map f g xs)

-- a weaker test passes too
pub any_implies :
    {A : Type 0} (f g : A → Bool)
    → ((x : A) → T (f x) → T (g x))
    → (xs : List A)
    → T (any f xs)
    → T (any g xs)
unfolding any
any_implies f g h [] t = t
any_implies f g h (x ∷ xs) t =
    or_cases (f x) (any f xs) t
    (λ here. or_left (g x) (any g xs) (h x here))
    (λ there. or_right (g x) (any g xs) (any_implies f g h xs there))

pub All-of-map :
    {A B : Type 0} {P : A → Type 0} (Q : B → Type 0) (f : A → B) (xs : List A)
    → ((x : A) → P x → Q (f x))
    → All P xs
    → All Q (map f xs)
All-of-map Q f [] h a = tt
All-of-map Q f (x ∷ xs) h a = (h x a.0, All-of-map Q f xs h a.1)

-- ---- signed variables
-- the signed variables of u are 2u, with remainder 0, and 2u+1, with remainder 1
pub signed_variable : (u r i j : ℕ) → r < 2 → i ≡ 2 * u + r → eqb i j ≡ (eqb u (j / 2) && eqb (j % 2) r)
signed_variable u r i j below_two is =
    let half = eqb u (j / 2) in
    let remainder = eqb (j % 2) r in
    T-equal (eqb i j) (half && remainder)
    (λ t.
    let same : i ≡ j = eqb→eq i j t in
    and_both half remainder (true_t (eq-eqb u (j / 2) (omega arith))) (true_t (eq-eqb (j % 2) r (omega arith))))
    (λ t.
    let same_half : u ≡ j / 2 = eqb→eq u (j / 2) (and_left half remainder t) in
    let same_rest : j % 2 ≡ r = eqb→eq (j % 2) r (and_right half remainder t) in
    true_t (eq-eqb i j (omega arith)))

-- a remainder by 2 is 0 or it is 1
pub remainder_cases :
    (P : Bool → Bool → Type 0)
    → P true false
    → P false true
    → (r : ℕ)
    → r < 2
    → P (eqb r 0) (eqb r 1)
remainder_cases P even odd zero h = even
remainder_cases P even odd (suc zero) h = odd
remainder_cases P even odd (suc (suc r)) h = absurd (omega arith)

-- ---- a normal block
module _ (f : Item → Bool) where
  pub all_normal : (b : Block) → all f (normal_block b) ≡ all (λ i. all f (normal_item i)) b
  unfolding all normal_block
  all_normal [] = refl
  all_normal (i ∷ b) =
      all_append f (normal_item i) (normal_block b) ∙ ap (λ (x : Bool). all f (normal_item i) && x) (all_normal b)

  pub any_normal : (b : Block) → any f (normal_block b) ≡ any (λ i. any f (normal_item i)) b
  unfolding any normal_block
  any_normal [] = refl
  any_normal (i ∷ b) =
      any_append f (normal_item i) (normal_block b) ∙ ap (λ (x : Bool). any f (normal_item i) || x) (any_normal b)

  -- a test that no condition passes
  pub any_condition :
      ((c : Condition) → f (condition c) ≡ false)
      → (o : Comparison) (ts : List Term) (c : ℤ)
      → any f (normal_condition o ts c) ≡ false
  unfolding any normal_condition least
  any_condition h at_least ts c = rw h refl
  any_condition h above ts c = rw h refl
  any_condition h at_most ts c = rw h refl
  any_condition h below ts c = rw h refl
  any_condition h equal ts c = simp h

  -- a test of an effect's variable alone
  pub any_effect :
      (g : ℕ → Bool)
      → ((e : Effect) → f (effect e) ≡ g e.var)
      → (k : Kind) (v : ℕ) (ts : List Term) (c : ℤ)
      → any f (normal_effect k v ts c) ≡ (g (2 * v) || g (2 * v + 1))
  unfolding any normal_effect mirrored
  any_effect g h assign v ts c = simp (h, or-false)
  any_effect g h increase v ts c = simp (h, or-false)
  any_effect g h decrease v ts c = simp (h, or-false)

-- a test that no condition and no effect passes finds in a normal block what it finds in the block
module _
    (f : Item → Bool)
    (no_condition : (c : Condition) → f (condition c) ≡ false)
    (no_effect : (e : Effect) → f (effect e) ≡ false) where
  plain_item : (i : Item) → any f (normal_item i) ≡ f i
  unfolding any normal_item
  plain_item (need p) = or-false (f (need p))
  plain_item (add p) = or-false (f (add p))
  plain_item (delete p) = or-false (f (delete p))
  plain_item (condition c) = any_condition f no_condition c.comparison c.terms c.bound ∙ sym (no_condition c)
  plain_item (effect e) =
      any_effect f (λ v. false) no_effect e.kind e.var e.terms e.base ∙ sym (no_effect e)

  pub any_plain : (b : Block) → any f (normal_block b) ≡ any f b
  any_plain b = any_normal f b ∙ ap (λ (g : Item → Bool). any g b) (fun_ext plain_item)

pub All-normal : (P : Item → Type 0) (b : Block) → All (λ i. All P (normal_item i)) b → All P (normal_block b)
unfolding normal_block
All-normal P [] a = tt
All-normal P (i ∷ b) a = All-append P (normal_item i) (normal_block b) a.0 (All-normal P b a.1)
