-- In the normal form of a block no two items name the same thing, if no two do in the block.
-- Assumes nothing.
use Rattle.std.specs.Prelude.{ℕ, ◌+◌, ◌*◌, ◌/◌, ◌≡◌, Bool, false, not, ◌||◌, ◌≢◌, List, [], ◌∷◌, ◌++◌, T, ℤ, neg_ℤ}
use Rattle.std.proofs.Common.{arith, ◌∙◌, eq-eqb, ne_eqb, eqb→eq}
use Rattle.std.proofs.Math.Path.{refl, ap, fun_ext}
use Rattle.std.proofs.Math.Dec.{eqb}
use Rattle.model.specs.Lists.{any}
use Rattle.model.specs.Task.{Term, Comparison, at_least, above, at_most, below, equal, Condition, Kind, assign, increase, decrease, Effect, Item, need, add, delete, condition, effect, Block, clashes}
use Rattle.model.specs.NormalForm.{negated, signed_sum, least, normal_condition, mirrored, normal_effect, normal_item, normal_block}
use Rattle.model.specs.Theorems.Reading.WellFormed.{Once}
use Rattle.model.proofs.Theorems.Laws.Booleans.{true_t, T-equal, T-cases, or_left, or_right, or_cases}
use Rattle.model.proofs.Theorems.NormalForm.Blocks.{any_normal, any_condition, any_effect, any_plain}

-- a condition names nothing
condition_free : (c : Condition) (b : Block) → T (not (any (clashes (condition c)) b))
unfolding any clashes
condition_free c [] = tt
condition_free c (need p ∷ b) = condition_free c b
condition_free c (add p ∷ b) = condition_free c b
condition_free c (delete p ∷ b) = condition_free c b
condition_free c (condition d ∷ b) = condition_free c b
condition_free c (effect e ∷ b) = condition_free c b

condition_once :
    (o : Comparison) (ts : List Term) (c : ℤ) (b : Block)
    → Once b
    → Once (normal_condition o ts c ++ b)
unfolding normal_condition least
condition_once at_least ts c b once = (condition_free _ b, once)
condition_once above ts c b once = (condition_free _ b, once)
condition_once at_most ts c b once = (condition_free _ b, once)
condition_once below ts c b once = (condition_free _ b, once)
condition_once equal ts c b once = (condition_free _ (_ ∷ b), (condition_free _ b, once))

-- w is a signed variable of v
half_test : (w v : ℕ) → (eqb w (2 * v) || eqb w (2 * v + 1)) ≡ eqb (w / 2) v
half_test w v = T-equal (eqb w (2 * v) || eqb w (2 * v + 1)) (eqb (w / 2) v) forth (λ t. back (eqb→eq (w / 2) v t))
  where
    forth : T (eqb w (2 * v) || eqb w (2 * v + 1)) → T (eqb (w / 2) v)
    forth t =
        or_cases (eqb w (2 * v)) (eqb w (2 * v + 1)) t
        (λ even. let e : w ≡ 2 * v = eqb→eq w (2 * v) even in true_t (eq-eqb (w / 2) v (omega arith)))
        (λ odd. let e : w ≡ 2 * v + 1 = eqb→eq w (2 * v + 1) odd in true_t (eq-eqb (w / 2) v (omega arith)))

    back : w / 2 ≡ v → T (eqb w (2 * v) || eqb w (2 * v + 1))
    back half =
        T-cases (eqb w (2 * v))
        (λ even. or_left (eqb w (2 * v)) (eqb w (2 * v + 1)) even)
        (λ not-even.
        let h : w ≢ 2 * v = (λ e. not-even (true_t (eq-eqb w (2 * v) e))) in
        or_right (eqb w (2 * v)) (eqb w (2 * v + 1)) (true_t (eq-eqb w (2 * v + 1) (omega arith))))

-- an effect on a signed variable of v meets in a normal block what an effect on v meets in the block
module _ (x e : Effect) (half : x.var / 2 ≡ e.var) where
  effect_item : (i : Item) → any (clashes (effect x)) (normal_item i) ≡ clashes (effect e) i
  unfolding any clashes normal_item
  effect_item (need p) = refl
  effect_item (add p) = refl
  effect_item (delete p) = refl
  effect_item (condition c) = any_condition (clashes (effect x)) (λ d. refl) c.comparison c.terms c.bound
  effect_item (effect f) =
      any_effect (clashes (effect x)) (eqb x.var) (λ d. refl) f.kind f.var f.terms f.base
      ∙ half_test x.var f.var
      ∙ ap (λ (u : ℕ). eqb u f.var) half

  effect_clashes : (b : Block) → any (clashes (effect x)) (normal_block b) ≡ any (clashes (effect e)) b
  effect_clashes b = any_normal (clashes (effect x)) b ∙ ap (λ (g : Item → Bool). any g b) (fun_ext effect_item)

module _
    (e : Effect) (b : Block) (free : T (not (any (clashes (effect e)) b))) (once : Once (normal_block b)) where
  -- an effect and its mirror are on two variables
  mirrored_once : (k : Kind) (ts : List Term) (c : ℤ) → Once (mirrored k e.var ts c ++ normal_block b)
  unfolding mirrored any clashes
  mirrored_once k ts c = (rw apart (alone even (omega arith)), (alone odd (omega arith), once))
    where
      even : Effect
      even = record { kind = k; var = 2 * e.var; terms = signed_sum ts; base = c }

      odd : Effect
      odd = record { kind = k; var = 2 * e.var + 1; terms = signed_sum (negated ts); base = neg_ℤ c }

      alone : (x : Effect) → x.var / 2 ≡ e.var → T (not (any (clashes (effect x)) (normal_block b)))
      alone x half = rw (effect_clashes x e half b) free

      apart : eqb (2 * e.var) (2 * e.var + 1) ≡ false
      apart = ne_eqb (2 * e.var) (2 * e.var + 1) (λ h. omega arith)

  effect_once : (k : Kind) (ts : List Term) (c : ℤ) → Once (normal_effect k e.var ts c ++ normal_block b)
  unfolding normal_effect
  effect_once assign ts c = mirrored_once assign ts c
  effect_once increase ts c = mirrored_once increase ts c
  effect_once decrease ts c = mirrored_once increase (negated ts) (neg_ℤ c)

-- "In a block a proposition is named once at most by 50, and once at most by 2B and 2D together; a move has one effect at
-- most on a variable": the normal form keeps that.
pub normal_once : (b : Block) → Once b → Once (normal_block b)
unfolding normal_block normal_item clashes
normal_once [] once = tt
normal_once (need p ∷ b) once =
    (rw (any_plain (clashes (need p)) (λ c. refl) (λ e. refl) b) once.0, normal_once b once.1)
normal_once (add p ∷ b) once =
    (rw (any_plain (clashes (add p)) (λ c. refl) (λ e. refl) b) once.0, normal_once b once.1)
normal_once (delete p ∷ b) once =
    (rw (any_plain (clashes (delete p)) (λ c. refl) (λ e. refl) b) once.0, normal_once b once.1)
normal_once (condition c ∷ b) once =
    condition_once c.comparison c.terms c.bound (normal_block b) (normal_once b once.1)
normal_once (effect e ∷ b) once =
    effect_once e b once.0 (normal_once b once.1) e.kind e.terms e.base
