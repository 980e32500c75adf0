-- The order of values and of layers: sums, conditions and an effect's value never fall when a layer rises, and a state seen as a
-- layer has the same sums and conditions as the state. Assumes nothing.
use Rattle.std.specs.Prelude.{ℕ, ◌≡◌, T, ℤ, pos, negsuc, ◌*ℤ◌, ◌≤ℤ◌}
use Rattle.std.proofs.Math.Path.{refl, ap, ap₂}
use Rattle.std.proofs.Common.{sym, ◌∙◌, subst}
use Rattle.std.proofs.Math.Bool.{◌&&◌}
use mathlib.Core.List.{List, [], ◌∷◌}
use Rattle.std.specs.Int.Signed.{le_z}
use Rattle.integer.specs.Linear.{zlin, ≤-refl, ≤_trans, ≤-antisym, <-≤, +-mono, *-mono, larger_cases}
use Rattle.model.specs.Limits.{Limits}
use Rattle.model.specs.Lists.{all}
use Rattle.model.specs.Task.{normal, Term, Comparison, at_least, above, at_most, below, equal, Effect, Item, need, add, delete, condition, effect, Block}
use Rattle.model.specs.Move.{State, sum, compares, holds, applicable, value}
use Rattle.model.specs.Layer.{Value, finite, unbounded, Layer, plus, times, layer_sum, reaches, highest, holds_in, usable, layer_value, layer_of}
use Rattle.model.specs.Theorems.Reading.WellFormed.{All, TermOk, SumOk, ComparisonOk, EffectOk, ItemOk, BlockOk}
use Rattle.model.proofs.Theorems.Laws.Booleans.{and_left, and_right, and_both, T-equal}
use Rattle.model.proofs.Theorems.Laws.Searching.{All-map}
use Rattle.model.specs.Theorems.Layers.Order.{◌≼◌, ◌⊑◌}

pub finite-⊑ : {a b : ℤ} → a ≤ℤ b → finite a ⊑ finite b
finite-⊑ h = record { below = h.le }

pub ⊑-finite : {a b : ℤ} → finite a ⊑ finite b → a ≤ℤ b
⊑-finite h = record { le = h.below }

pub ⊑-unbounded : (x : Value) → x ⊑ unbounded
⊑-unbounded (finite a) = record { below = tt }
⊑-unbounded unbounded = record { below = tt }

pub unbounded-⊑ : {x : Value} → unbounded ⊑ x → x ≡ unbounded
unbounded-⊑ {x = finite a} h = absurd h.below
unbounded-⊑ {x = unbounded} h = refl

pub ⊑_refl : (x : Value) → x ⊑ x
⊑_refl (finite a) = finite-⊑ (≤-refl a)
⊑_refl unbounded = ⊑-unbounded unbounded

pub ≡-⊑ : {x y : Value} → x ≡ y → x ⊑ y
≡-⊑ {x} e = subst (λ (y : Value). x ⊑ y) e (⊑_refl x)

pub ⊑_trans : {x y z : Value} → x ⊑ y → y ⊑ z → x ⊑ z
⊑_trans {x} {y} {z = unbounded} h k = ⊑-unbounded x
⊑_trans {x} {y = unbounded} {z = finite c} h k = absurd k.below
⊑_trans {x = finite a} {y = finite b} {z = finite c} h k = finite-⊑ (≤_trans (⊑-finite h) (⊑-finite k))
⊑_trans {x = unbounded} {y = finite b} {z = finite c} h k = absurd h.below

pub ⊑-antisym : {x y : Value} → x ⊑ y → y ⊑ x → x ≡ y
⊑-antisym {x = finite a} {y = finite b} h k = ap finite (≤-antisym (⊑-finite h) (⊑-finite k))
⊑-antisym {x = finite a} {y = unbounded} h k = absurd k.below
⊑-antisym {x = unbounded} {y} h k = sym (unbounded-⊑ h)

-- "is the value at least c" in the order
pub reaches-⊑ : (x : Value) (c : ℤ) → T (reaches x c) → finite c ⊑ x
unfolding reaches
reaches-⊑ (finite z) c t = record { below = t }
reaches-⊑ unbounded c t = record { below = tt }

pub ⊑-reaches : {x : Value} {c : ℤ} → finite c ⊑ x → T (reaches x c)
unfolding reaches
⊑-reaches {x = finite z} h = h.below
⊑-reaches {x = unbounded} h = tt

pub reaches_mono : {x y : Value} (c : ℤ) → x ⊑ y → T (reaches x c) → T (reaches y c)
reaches_mono {x} {y} c h t = ⊑-reaches (⊑_trans (reaches-⊑ x c t) h)

pub plus_mono : {x y z w : Value} → x ⊑ y → z ⊑ w → plus x z ⊑ plus y w
unfolding plus
plus_mono {x} {y = unbounded} {z} {w} h k = ⊑-unbounded (plus x z)
plus_mono {x} {y = finite b} {z} {w = unbounded} h k = ⊑-unbounded (plus x z)
plus_mono {x = unbounded} {y = finite b} {z} {w = finite d} h k = absurd h.below
plus_mono {x = finite a} {y = finite b} {z = unbounded} {w = finite d} h k = absurd k.below
plus_mono {x = finite a} {y = finite b} {z = finite c} {w = finite d} h k = finite-⊑ (+-mono (⊑-finite h) (⊑-finite k))

pub times_mono : {w : ℤ} {x y : Value} → pos 0 ≤ℤ w → x ⊑ y → times w x ⊑ times w y
unfolding times
times_mono {w} {x} {y = unbounded} p h = ⊑-unbounded (times w x)
times_mono {w} {x = unbounded} {y = finite b} p h = absurd h.below
times_mono {w = pos n} {x = finite a} {y = finite b} p h = finite-⊑ (*-mono n (⊑-finite h))
times_mono {w = negsuc n} {x = finite a} {y = finite b} p h = absurd p.le

-- the higher of two values is one of the two, and their least upper bound
pub highest_cases : (P : Value → Type 0) (x y : Value) → (y ⊑ x → P x) → (x ⊑ y → P y) → P (highest x y)
unfolding highest
highest_cases P (finite a) (finite b) f g =
    larger_cases a b (λ (m : ℤ). P (finite m)) (λ h. g (finite-⊑ h)) (λ h. f (finite-⊑ (<-≤ h)))
highest_cases P (finite a) unbounded f g = g (⊑-unbounded (finite a))
highest_cases P unbounded y f g = f (⊑-unbounded y)

pub highest_left : (x y : Value) → x ⊑ highest x y
highest_left x y = highest_cases (λ m. x ⊑ m) x y (λ h. ⊑_refl x) (λ h. h)

pub highest_right : (x y : Value) → y ⊑ highest x y
highest_right x y = highest_cases (λ m. y ⊑ m) x y (λ h. h) (λ h. ⊑_refl y)

pub highest_least : {x y z : Value} → x ⊑ z → y ⊑ z → highest x y ⊑ z
highest_least {x} {y} {z} h k = highest_cases (λ m. m ⊑ z) x y (λ l. h) (λ l. k)

pub highest_mono : {x y z w : Value} → x ⊑ y → z ⊑ w → highest x z ⊑ highest y w
highest_mono {x} {y} {z} {w} h k = highest_least (⊑_trans h (highest_left y w)) (⊑_trans k (highest_right y w))

pub highest_same : (x : Value) → highest x x ≡ x
highest_same x = highest_cases (λ m. m ≡ x) x x (λ h. refl) (λ h. refl)

pub highest_comm : (x y : Value) → highest x y ≡ highest y x
highest_comm x y =
    ⊑-antisym
    (highest_least (highest_right y x) (highest_left y x))
    (highest_least (highest_right x y) (highest_left x y))

pub highest_assoc : (x y z : Value) → highest (highest x y) z ≡ highest x (highest y z)
highest_assoc x y z =
    ⊑-antisym
    (highest_least (highest_mono (⊑_refl x) (highest_left y z)) (⊑_trans (highest_right y z) (highest_right x (highest y z))))
    (highest_least (⊑_trans (highest_left x y) (highest_left (highest x y) z)) (highest_mono (highest_right x y) (⊑_refl z)))

pub ≼_refl : (l : Layer) → l ≼ l
≼_refl l = record { has = λ p t. t; val = λ v. ⊑_refl (l.val v) }

pub ≼_trans : {l k m : Layer} → l ≼ k → k ≼ m → l ≼ m
≼_trans h k = record { has = λ p t. k.has p (h.has p t); val = λ v. ⊑_trans (h.val v) (k.val v) }

pub ≼-antisym : {l k : Layer} → l ≼ k → k ≼ l → l ≡ k
≼-antisym {l} {k} h j =
    λ i. record {
      has = λ p. T-equal (l.has p) (k.has p) (h.has p) (j.has p) i;
      val = λ v. ⊑-antisym (h.val v) (j.val v) i;
    }

-- ---- sums
-- a sum with weights above 0 rises with the values of its own variables
pub layer_sum_rises :
    (f g : ℕ → Value) (ts : List Term)
    → All (λ (t : Term). (pos 1 ≤ℤ t.weight) × f t.var ⊑ g t.var) ts
    → layer_sum f ts ⊑ layer_sum g ts
unfolding layer_sum
layer_sum_rises f g [] a = ⊑_refl (finite (pos 0))
layer_sum_rises f g (t ∷ ts) a =
    let positive : pos 0 ≤ℤ t.weight = omega zlin in
    plus_mono (times_mono positive a.0.1) (layer_sum_rises f g ts a.1)

pub layer_sum_mono :
    {L : Limits} {vars : ℕ} {f g : ℕ → Value} {ts : List Term}
    → SumOk L normal vars ts
    → ((v : ℕ) → f v ⊑ g v)
    → layer_sum f ts ⊑ layer_sum g ts
layer_sum_mono {L} {vars} {f} {g} {ts} ok h =
    layer_sum_rises f g ts
    (All-map {P = TermOk L normal vars} ts (λ t c. (c.weight.0, h t.var)) ok.terms)

-- over whole numbers it is the sum
pub layer_sum_finite : (f : ℕ → ℤ) (ts : List Term) → layer_sum (λ v. finite (f v)) ts ≡ finite (sum f ts)
unfolding layer_sum sum plus times
layer_sum_finite f [] = refl
layer_sum_finite f (t ∷ ts) = ap (plus (finite (t.weight *ℤ f t.var))) (layer_sum_finite f ts)

-- ---- an effect's value
pub layer_value_mono :
    {L : Limits} {vars : ℕ} {e : Effect} {l k : Layer}
    → EffectOk L normal vars e
    → l ≼ k
    → layer_value l e ⊑ layer_value k e
unfolding layer_value
layer_value_mono {e} ok h = plus_mono (layer_sum_mono ok.sum h.val) (⊑_refl (finite e.base))

pub layer_value_finite : (s : State) (e : Effect) → layer_value (layer_of s) e ≡ finite (value s e)
unfolding layer_value layer_of value plus
layer_value_finite s e = ap (λ (x : Value). plus x (finite e.base)) (layer_sum_finite s.val e.terms)

-- ---- conditions of a normal table
-- "Normal: .. o only 0"
compares_normal : (o : Comparison) (z c : ℤ) → ComparisonOk normal o → le_z c z ≡ compares o z c
unfolding compares
compares_normal at_least z c ok = refl
compares_normal above z c ok = absurd ok
compares_normal at_most z c ok = absurd ok
compares_normal below z c ok = absurd ok
compares_normal equal z c ok = absurd ok

module _ (L : Limits) (props vars : ℕ) where
  pub holds_in_mono : {l k : Layer} (i : Item) → ItemOk L normal props vars i → l ≼ k → T (holds_in l i) → T (holds_in k i)
  unfolding holds_in
  holds_in_mono (need p) ok h t = h.has p t
  holds_in_mono (condition c) ok h t = reaches_mono c.bound (layer_sum_mono ok.sum h.val) t
  holds_in_mono (add p) ok h t = tt
  holds_in_mono (delete p) ok h t = tt
  holds_in_mono (effect e) ok h t = tt

  pub items_mono :
      {l k : Layer} (b : Block)
      → All (ItemOk L normal props vars) b
      → l ≼ k
      → T (all (holds_in l) b)
      → T (all (holds_in k) b)
  unfolding all
  items_mono [] ok h t = tt
  items_mono {l} {k} (i ∷ b) ok h t =
      and_both (holds_in k i) (all (holds_in k) b)
      (holds_in_mono i ok.0 h (and_left (holds_in l i) (all (holds_in l) b) t))
      (items_mono b ok.1 h (and_right (holds_in l i) (all (holds_in l) b) t))

  -- a state seen as a layer has the state's conditions
  pub holds_in_state : (s : State) (i : Item) → ItemOk L normal props vars i → holds_in (layer_of s) i ≡ holds s i
  unfolding holds_in holds layer_of reaches
  holds_in_state s (need p) ok = refl
  holds_in_state s (condition c) ok =
      ap (λ (x : Value). reaches x c.bound) (layer_sum_finite s.val c.terms)
      ∙ compares_normal c.comparison (sum s.val c.terms) c.bound ok.comparison
  holds_in_state s (add p) ok = refl
  holds_in_state s (delete p) ok = refl
  holds_in_state s (effect e) ok = refl

  pub items_state :
      (s : State) (b : Block)
      → All (ItemOk L normal props vars) b
      → all (holds_in (layer_of s)) b ≡ all (holds s) b
  unfolding all
  items_state s [] ok = refl
  items_state s (i ∷ b) ok = ap₂ ◌&&◌ (holds_in_state s i ok.0) (items_state s b ok.1)

-- what is usable in a layer is usable in a higher one
pub usable_mono :
    {L : Limits} {props vars : ℕ} {b : Block} {l k : Layer}
    → BlockOk L normal props vars b
    → l ≼ k
    → T (usable l b)
    → T (usable k b)
unfolding usable
usable_mono {L} {props} {vars} {b} ok h t = items_mono L props vars b ok.items h t

-- "Layer 0 is the state": what is usable in it is what is applicable in the state
pub usable_state :
    {L : Limits} {props vars : ℕ} {b : Block} (s : State)
    → BlockOk L normal props vars b
    → usable (layer_of s) b ≡ applicable s b
unfolding usable applicable
usable_state {L} {props} {vars} {b} s ok = items_state L props vars s b ok.items
