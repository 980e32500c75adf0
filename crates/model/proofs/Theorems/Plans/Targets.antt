-- Wants as facts: what each wanted proposition and each target has, what one want more adds, and when a layer, or a state seen as
-- a layer, meets the wants (document 01, "Plan"). Assumes nothing.
use Rattle.std.specs.Prelude.{ℕ, ◌≡◌, refl, eqb, ℤ, ◌+ℤ◌, ◌-ℤ◌, ◌≤ℤ◌}
use Rattle.std.proofs.Math.Dec.{T, eqb_refl}
use Rattle.std.proofs.Common.{eqb→eq}
use Rattle.integer.specs.Linear.{zlin, sum, diff, ≤-refl, larger_cases, larger_left, larger_right}
use Rattle.model.specs.Move.{State}
use Rattle.model.specs.Layer.{Value, finite, unbounded, Layer, plus, reaches, layer_of}
use Rattle.model.specs.Plan.{Target, free, least, Wants, no_wants, raise_target, want_prop, want_value, low_value, low, carried_target, carried}
use Rattle.model.proofs.Theorems.Laws.Booleans.{and_left, and_right, or_left, or_right, or_cases, cond_cases}
use Rattle.model.specs.Theorems.Layers.Order.{◌≼◌}
use Rattle.model.proofs.Theorems.Layers.Order.{finite-⊑, ⊑-unbounded, ⊑_refl, ⊑_trans, reaches-⊑, ⊑-reaches, reaches_mono, ≼_refl, ≼_trans}
use Rattle.model.specs.Theorems.Plans.Targets.{Above, Each, EachTarget, Reached, Sat}

raise_each : (Q : ℤ → Type 0) (t : Target) (z : ℤ) → EachTarget Q t → Q z → EachTarget Q (raise_target t z)
unfolding raise_target
raise_each Q free z h q = q
raise_each Q (least y) z h q = larger_cases y z Q (λ l. q) (λ l. h)

target_map : {Q R : ℤ → Type 0} → ((z : ℤ) → Q z → R z) → (t : Target) → EachTarget Q t → EachTarget R t
target_map f free h = tt
target_map f (least z) h = f z h

pub each_map :
    {P R : ℕ → Type 0} {Q S : ℕ → ℤ → Type 0} {w : Wants}
    → ((p : ℕ) → P p → R p)
    → ((v : ℕ) (z : ℤ) → Q v z → S v z)
    → Each P Q w
    → Each R S w
each_map {w} f g h = record { props = λ p t. f p (h.props p t); targets = λ v. target_map (g v) (w.target v) (h.targets v) }

module _ {P : ℕ → Type 0} {Q : ℕ → ℤ → Type 0} where
  pub no_wants_each : Each P Q no_wants
  unfolding no_wants
  no_wants_each = record { props = λ p. absurd; targets = λ v. tt }

  pub want_prop_each : {w : Wants} {p : ℕ} → Each P Q w → P p → Each P Q (want_prop w p)
  unfolding want_prop
  want_prop_each {w} {p} h q =
      record { props = λ r t. or_cases (w.props r) (eqb r p) t (h.props r) (λ e. rw (eqb→eq r p e) q); targets = h.targets }

  pub want_value_each : {w : Wants} {v : ℕ} {z : ℤ} → Each P Q w → Q v z → Each P Q (want_value w v z)
  unfolding want_value
  want_value_each {w} {v} {z} h q =
      record {
        props = h.props;
        targets =
            λ u. cond_cases (EachTarget (Q u)) (eqb u v) (raise_target (w.target u) z) (w.target u)
            (λ e. raise_each (Q u) (w.target u) z (h.targets u) (rw (eqb→eq u v e) q))
            (λ e. h.targets u);
      }

-- what is carried down is wanted above, and the layer has it
pub carried_each :
    {P R : ℕ → Type 0} {Q S : ℕ → ℤ → Type 0} {w : Wants} (l : Layer)
    → ((p : ℕ) → P p → T (l.has p) → R p)
    → ((v : ℕ) (z : ℤ) → Q v z → T (reaches (l.val v) z) → S v z)
    → Each P Q w
    → Each R S (carried l w)
unfolding carried carried_target
carried_each {Q = Q} {S = S} {w = w} l f g h =
    record {
      props = λ p t. f p (h.props p (and_left (w.props p) (l.has p) t)) (and_right (w.props p) (l.has p) t);
      targets = λ v. go v (w.target v) (h.targets v);
    }
  where
    go : (v : ℕ) (t : Target) → EachTarget (Q v) t → EachTarget (S v) (carried_target (l.val v) t)
    go v free i = tt
    go v (least z) i = cond_cases (EachTarget (S v)) (reaches (l.val v) z) (least z) free (g v z i) (λ low. tt)

-- a higher layer meets what a lower one does
pub sat_mono : {w : Wants} {x y : Layer} → Sat w x → x ≼ y → Sat w y
sat_mono h k = record { each = each_map (λ p. k.has p) (λ v z. reaches_mono z (k.val v)) h.each }

reaches_lower : (x : Value) {a b : ℤ} → a ≤ℤ b → T (reaches x b) → T (reaches x a)
reaches_lower x {b} h t = ⊑-reaches (⊑_trans (finite-⊑ h) (reaches-⊑ x b t))

raise_old : (x : Value) (t : Target) (z : ℤ) → Reached x (raise_target t z) → Reached x t
unfolding raise_target
raise_old x free z h = tt
raise_old x (least y) z h = reaches_lower x (larger_left y z) h

raise_new : (x : Value) (t : Target) (z : ℤ) → Reached x (raise_target t z) → T (reaches x z)
unfolding raise_target
raise_new x free z h = h
raise_new x (least y) z h = reaches_lower x (larger_right y z) h

module _ {x : Layer} where
  pub want_prop_old : (w : Wants) (p : ℕ) → Sat (want_prop w p) x → Sat w x
  unfolding want_prop
  want_prop_old w p h =
      record { each = record { props = λ r t. h.each.props r (or_left (w.props r) (eqb r p) t); targets = h.each.targets } }

  pub want_prop_new : (w : Wants) (p : ℕ) → Sat (want_prop w p) x → T (x.has p)
  unfolding want_prop
  want_prop_new w p h = h.each.props p (or_right (w.props p) (eqb p p) (eqb_refl p))

  pub want_value_old : (w : Wants) (v : ℕ) (z : ℤ) → Sat (want_value w v z) x → Sat w x
  unfolding want_value
  want_value_old w v z h =
      record {
        each = record {
          props = h.each.props;
          targets =
              λ u. cond_cases (λ t. Reached (x.val u) t → Reached (x.val u) (w.target u)) (eqb u v)
              (raise_target (w.target u) z) (w.target u)
              (λ e. raise_old (x.val u) (w.target u) z) (λ e r. r) (h.each.targets u);
        };
      }

  pub want_value_new : (w : Wants) (v : ℕ) (z : ℤ) → Sat (want_value w v z) x → T (reaches (x.val v) z)
  unfolding want_value
  want_value_new w v z h =
      cond_cases (λ t. Reached (x.val v) t → T (reaches (x.val v) z)) (eqb v v) (raise_target (w.target v) z) (w.target v)
      (λ e. raise_new (x.val v) (w.target v) z) (λ e. absurd (e (eqb_refl v))) (h.each.targets v)

pub above_refl : (s : State) → Above s s
above_refl s = record { order = ≼_refl (layer_of s) }

pub above_trans : {s x y : State} → Above s x → Above x y → Above s y
above_trans h k = record { order = ≼_trans h.order k.order }

-- ---- what a layer's value is known to reach, and the number that stands for it
pub reaches_own : {x : Value} {z : ℤ} → x ≡ finite z → T (reaches x z)
reaches_own {z} e = rw e (⊑-reaches (⊑_refl (finite z)))

pub reaches_any : {x : Value} (z : ℤ) → x ≡ unbounded → T (reaches x z)
reaches_any z e = rw e (⊑-reaches (⊑-unbounded (finite z)))

pub low_plus : (a : ℤ) (x : Value) (c : ℤ) → low_value (plus (finite a) x) c ≡ a +ℤ low_value x (c -ℤ a)
unfolding plus low_value
low_plus a (finite z) c = refl
low_plus a unbounded c = omega (zlin, diff c a, sum a (c -ℤ a))

pub low_reaches : (x : Value) (c : ℤ) → T (reaches x c) → c ≤ℤ low_value x c
unfolding reaches low_value
low_reaches (finite z) c t = record { le = t }
low_reaches unbounded c t = ≤-refl c

pub low_finite : (l : Layer) (s : State) (v : ℕ) {z : ℤ} → l.val v ≡ finite z → low l s v ≡ z
unfolding low low_value
low_finite l s v e = rw e

pub low_unbounded : (l : Layer) (s : State) (v : ℕ) → l.val v ≡ unbounded → low l s v ≡ s.val v
unfolding low low_value
low_unbounded l s v e = rw e
