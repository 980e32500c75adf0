-- What is wanted of a layer for "sum ≥ c" (document 01, "Plan"), term by term: the layer meets it, every state at least as high as the
-- first that meets it has the sum, and the first unbounded term is the lowest. Assumes nothing.
use Rattle.std.specs.Prelude.{ℕ, ◌<◌, ◌≤◌, ◌≡◌, T, ℤ, pos, negsuc, nat_abs, ◌+ℤ◌, ◌-ℤ◌, ◌*ℤ◌, ◌≤ℤ◌}
use Rattle.std.proofs.Common.{arith, sym, ap, subst}
use Rattle.std.proofs.Math.Path.{refl}
use mathlib.Core.List.{List, [], ◌∷◌}
use Rattle.std.proofs.Math.Option.{none, some}
use Rattle.integer.specs.Linear.{zlin, diff, +-mono, ≤-refl, ≤_trans}
use Rattle.integer.specs.Linear as Linear
use Rattle.integer.specs.Ceiling.{ceiling}
use Rattle.integer.proofs.Ceiling.{ceiling_enough}
use Rattle.model.specs.Task.{Term}
use Rattle.model.specs.Move.{State, sum}
use Rattle.model.specs.Layer.{Value, finite, unbounded, Layer, plus, times, layer_sum, reaches, layer_of}
use Rattle.model.specs.Plan.{Wants, want_value, low, low_value, want_finite, lowest_unbounded, rest_terms, want_quotient, want_sum}
use Rattle.model.specs.Theorems.Reading.WellFormed.{All, Rising}
use Rattle.model.proofs.Theorems.Layers.Order.{finite-⊑, ⊑-finite, reaches-⊑, times_mono}
use Rattle.model.proofs.Theorems.Layers.Relaxation.{val_mono}
use Rattle.model.specs.Theorems.Plans.Targets.{Above, Each, Sat}
use Rattle.model.proofs.Theorems.Plans.Targets.{reaches_own, reaches_any, low_plus, low_finite, low_unbounded, want_value_each, want_value_old, want_value_new}
use Rattle.model.specs.Theorems.Plans.Wanting.{Among, Offered, Positive, here, there}

-- ---- term by term

sub_sub : (a b c : ℤ) → (a -ℤ b) -ℤ c ≡ a -ℤ (b +ℤ c)
sub_sub a b c = omega (zlin, diff a b, diff (a -ℤ b) c, Linear.sum b c, diff a (b +ℤ c))

-- what the unbounded variable of the first term gets
abbrev share : Layer → State → Term → List Term → ℤ → ℤ
share l s t ts c = ceiling (c -ℤ sum (low l s) ts) (nat_abs t.weight)

module _ (l : Layer) (w : Wants) (t : Term) (ts : List Term) where
  pub want_finite_finite : {z : ℤ} → l.val t.var ≡ finite z → want_finite l w (t ∷ ts) ≡ want_finite l (want_value w t.var z) ts
  unfolding want_finite
  want_finite_finite e = rw (e, want_finite)

  pub want_finite_unbounded : l.val t.var ≡ unbounded → want_finite l w (t ∷ ts) ≡ want_finite l w ts
  unfolding want_finite
  want_finite_unbounded e = rw (e, want_finite)

  module _ (s : State) (c : ℤ) where
    -- a finite variable's target is its value, and c is less by what the term gives
    pub want_sum_finite : {z : ℤ} → l.val t.var ≡ finite z → want_sum l s w (t ∷ ts) c ≡ want_sum l s (want_value w t.var z) ts (c -ℤ (t.weight *ℤ z))
    unfolding want_sum want_finite lowest_unbounded rest_terms sum
    want_sum_finite {z} e =
        rw (e, want_finite, lowest_unbounded, rest_terms, low_finite l s t.var e)
        (ap (want_quotient (want_finite l (want_value w t.var z) ts) (lowest_unbounded l ts)) (sym (sub_sub c (t.weight *ℤ z) (sum (low l s) (rest_terms l ts)))))

    -- the first unbounded one is the lowest, and the terms behind it are the rest
    pub want_sum_unbounded : l.val t.var ≡ unbounded → want_sum l s w (t ∷ ts) c ≡ want_value (want_finite l w ts) t.var (share l s t ts c)
    unfolding want_sum want_finite lowest_unbounded rest_terms want_quotient
    want_sum_unbounded e = rw (e, want_finite, lowest_unbounded, rest_terms)

-- a value is finite or unbounded
value_cases : {A : Type 0} (x : Value) → ((z : ℤ) → x ≡ finite z → A) → (x ≡ unbounded → A) → A
value_cases (finite z) f g = f z refl
value_cases unbounded f g = g refl

module _ (l : Layer) (w : Wants) (t : Term) (ts : List Term) (P : Wants → Type 0) where
  pub want_finite_cases :
      ((z : ℤ) → l.val t.var ≡ finite z → P (want_finite l (want_value w t.var z) ts))
      → (l.val t.var ≡ unbounded → P (want_finite l w ts))
      → P (want_finite l w (t ∷ ts))
  want_finite_cases f g =
      value_cases (l.val t.var)
      (λ z e. subst P (sym (want_finite_finite l w t ts e)) (f z e))
      (λ e. subst P (sym (want_finite_unbounded l w t ts e)) (g e))

  pub want_sum_cases :
      (s : State) (c : ℤ)
      → ((z : ℤ) → l.val t.var ≡ finite z → P (want_sum l s (want_value w t.var z) ts (c -ℤ (t.weight *ℤ z))))
      → (l.val t.var ≡ unbounded → P (want_value (want_finite l w ts) t.var (share l s t ts c)))
      → P (want_sum l s w (t ∷ ts) c)
  want_sum_cases s c f g =
      value_cases (l.val t.var)
      (λ z e. subst P (sym (want_sum_finite l w t ts s c e)) (f z e))
      (λ e. subst P (sym (want_sum_unbounded l w t ts s c e)) (g e))

pub want_sum_nil : (l : Layer) (s : State) (w : Wants) (c : ℤ) → want_sum l s w [] c ≡ w
unfolding want_sum want_finite lowest_unbounded rest_terms want_quotient
want_sum_nil l s w c = refl

module _ {P : ℕ → Type 0} {Q : ℕ → ℤ → Type 0} (l : Layer) where
  want_finite_each : (w : Wants) (ts : List Term) → All (Offered Q l) ts → Each P Q w → Each P Q (want_finite l w ts)
  unfolding want_finite
  want_finite_each w [] a h = h
  want_finite_each w (t ∷ ts) a h =
      want_finite_cases l w t ts (Each P Q)
      (λ z e. want_finite_each (want_value w t.var z) ts a.1 (want_value_each h (a.0 z (reaches_own e))))
      (λ e. want_finite_each w ts a.1 h)

  pub want_sum_each :
      (s : State) (w : Wants) (ts : List Term) (c : ℤ)
      → All (Offered Q l) ts
      → Each P Q w
      → Each P Q (want_sum l s w ts c)
  want_sum_each s w [] c a h = subst (Each P Q) (sym (want_sum_nil l s w c)) h
  want_sum_each s w (t ∷ ts) c a h =
      want_sum_cases l w t ts (Each P Q) s c
      (λ z e. want_sum_each s (want_value w t.var z) ts (c -ℤ (t.weight *ℤ z)) a.1
      (want_value_each h (a.0 z (reaches_own e))))
      (λ e. want_value_each (want_finite_each w ts a.1 h) (a.0 (share l s t ts c) (reaches_any (share l s t ts c) e)))

-- ---- what was wanted before stays wanted
module _ {x : Layer} (l : Layer) where
  want_finite_old : (w : Wants) (ts : List Term) → Sat (want_finite l w ts) x → Sat w x
  unfolding want_finite
  want_finite_old w [] h = h
  want_finite_old w (t ∷ ts) h =
      want_finite_cases l w t ts (λ u. Sat u x → Sat w x)
      (λ z e k. want_value_old w t.var z (want_finite_old (want_value w t.var z) ts k))
      (λ e. want_finite_old w ts)
      h

  pub want_sum_old : (s : State) (w : Wants) (ts : List Term) (c : ℤ) → Sat (want_sum l s w ts c) x → Sat w x
  want_sum_old s w [] c h = subst (λ u. Sat u x) (want_sum_nil l s w c) h
  want_sum_old s w (t ∷ ts) c h =
      want_sum_cases l w t ts (λ u. Sat u x → Sat w x) s c
      (λ z e k. want_value_old w t.var z (want_sum_old s (want_value w t.var z) ts (c -ℤ (t.weight *ℤ z)) k))
      (λ e k. want_finite_old w ts (want_value_old (want_finite l w ts) t.var (share l s t ts c) k))
      h

weighted : {w a b : ℤ} → pos 1 ≤ℤ w → a ≤ℤ b → (w *ℤ a) ≤ℤ (w *ℤ b)
unfolding times
weighted {w} h k = ⊑-finite (times_mono {w = w} (omega zlin) (finite-⊑ k))

pub positive_size : (w : ℤ) → pos 1 ≤ℤ w → (pos (nat_abs w) ≡ w) × (0 < nat_abs w)
positive_size (pos n) h = (refl, omega zlin)
positive_size (negsuc n) h = absurd h.le

-- (c − the rest)/w rounded up, times w, and the rest
lifted : (c r w : ℤ) → pos 1 ≤ℤ w → c ≤ℤ ((w *ℤ ceiling (c -ℤ r) (nat_abs w)) +ℤ r)
lifted c r w h =
    let q = ceiling (c -ℤ r) (nat_abs w) in
    let k : (c -ℤ r) ≤ℤ (w *ℤ q) = rw (positive_size w h).0 at (ceiling_enough (c -ℤ r) (nat_abs w) (positive_size w h).1) in
    omega (zlin, diff c r, Linear.sum (w *ℤ q) r)

module _ (l : Layer) {s y : State} (above : Above s y) where
  -- the target z on the variable of a term, met
  term_enough :
      (t : Term) (z : ℤ)
      → Positive t
      → T (reaches ((layer_of y).val t.var) z)
      → (t.weight *ℤ z) ≤ℤ (t.weight *ℤ y.val t.var)
  unfolding layer_of
  term_enough t z ok r = weighted ok (⊑-finite (reaches-⊑ (finite (y.val t.var)) z r))

  want_finite_enough :
      (w : Wants) (ts : List Term)
      → All Positive ts
      → Sat (want_finite l w ts) (layer_of y)
      → sum (low l s) ts ≤ℤ sum y.val ts
  unfolding want_finite sum
  want_finite_enough w [] ok h = ≤-refl (pos 0)
  want_finite_enough w (t ∷ ts) ok h =
      want_finite_cases l w t ts (λ u. Sat u (layer_of y) → sum (low l s) (t ∷ ts) ≤ℤ sum y.val (t ∷ ts))
      (λ z e k.
      let u = want_value w t.var z in
      rw (low_finite l s t.var e)
      (+-mono
      (term_enough t z ok.0 (want_value_new w t.var z (want_finite_old l u ts k)))
      (want_finite_enough u ts ok.1 k)))
      (λ e k. rw (low_unbounded l s t.var e)
      (+-mono (weighted ok.0 (val_mono s y above.order t.var)) (want_finite_enough w ts ok.1 k)))
      h

  -- in every state at least as high as the first that has the targets, the sum is at least the layer's if that is finite, and
  -- at least c if it is not
  pub want_sum_enough :
      (w : Wants) (ts : List Term) (c : ℤ)
      → All Positive ts
      → Sat (want_sum l s w ts c) (layer_of y)
      → low_value (layer_sum l.val ts) c ≤ℤ sum y.val ts
  unfolding sum layer_sum plus times low_value
  want_sum_enough w [] c ok h = ≤-refl (pos 0)
  want_sum_enough w (t ∷ ts) c ok h =
      want_sum_cases l w t ts (λ u. Sat u (layer_of y) → low_value (layer_sum l.val (t ∷ ts)) c ≤ℤ sum y.val (t ∷ ts)) s c
      (λ z e k.
      let u = want_value w t.var z in
      let d = c -ℤ (t.weight *ℤ z) in
      rw (e, low_plus (t.weight *ℤ z) (layer_sum l.val ts) c)
      (+-mono
      (term_enough t z ok.0 (want_value_new w t.var z (want_sum_old l s u ts d k)))
      (want_sum_enough u ts d ok.1 k)))
      (λ e k.
      let u = want_finite l w ts in
      let q = share l s t ts c in
      rw e
      (≤_trans (lifted c (sum (low l s) ts) t.weight ok.0)
      (+-mono
      (term_enough t q ok.0 (want_value_new u t.var q k))
      (want_finite_enough w ts ok.1 (want_value_old u t.var q k)))))
      h

among_all : (P : Term → Type 0) {t : Term} {ts : List Term} → Among t ts → All P ts → P t
among_all P here a = a.0
among_all P (there m) a = among_all P m a.1

module _ (l : Layer) where
  -- no variable is unbounded
  pub lowest_none : (ts : List Term) → All (λ (u : Term). l.val u.var ≡ unbounded → ⊥) ts → lowest_unbounded l ts ≡ none
  unfolding lowest_unbounded
  lowest_none [] a = refl
  lowest_none (t ∷ ts) a =
      value_cases (l.val t.var)
      (λ z e. rw (e, lowest_unbounded) (lowest_none ts a.1))
      (λ e. absurd (a.0 e))

  lowest_among :
      (t : Term) (ts : List Term)
      → Rising ts
      → Among t ts
      → l.val t.var ≡ unbounded
      → All (λ (u : Term). l.val u.var ≡ unbounded → t.var ≤ u.var) ts
      → lowest_unbounded l ts ≡ some t
  unfolding lowest_unbounded
  lowest_among t ts rising (here {ts = us}) e lowest = rw (e, lowest_unbounded)
  lowest_among t ts rising (there {u = u} {ts = us} m) e lowest =
      let before : u.var < t.var = among_all (λ r. u.var < r.var) m rising.0 in
      value_cases (l.val u.var)
      (λ z f. rw (f, lowest_unbounded) (lowest_among t us rising.1 m e lowest.1))
      (λ f. absurd (omega (arith, lowest.0 f)))

  -- t is unbounded, and no unbounded variable is lower
  pub lowest_some :
      (ts : List Term) (t : Term)
      → Rising ts
      → Among t ts
      → l.val t.var ≡ unbounded
      → All (λ (u : Term). l.val u.var ≡ unbounded → t.var ≤ u.var) ts
      → lowest_unbounded l ts ≡ some t
  lowest_some ts t rising m e lowest = lowest_among t ts rising m e lowest
