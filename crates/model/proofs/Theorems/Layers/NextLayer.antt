-- The next layer: at least the old one, at least what each usable move gives, and nothing else; it rises with the layer it is
-- made from, so layers rise. Assumes nothing.
use Prim.Native.Nat.{ℕ, zero, suc, ◌≤◌, ◌<◌}
use Rattle.std.proofs.Common.{not-suc-le-zero, arith, sym, subst, eqb→eq}
use Rattle.std.specs.Prelude.{◌≡◌, true, false, cond, ◌&&◌, T, eqb, pos, length, get_or}
use Rattle.std.proofs.Math.Bool.{Bool}
use mathlib.Core.List.{List, [], ◌∷◌}
use Rattle.std.proofs.Math.Option.{Option, none, some}
use Rattle.model.specs.Limits.{Limits}
use Rattle.model.specs.Task.{Form, normal, Kind, assign, increase, decrease, Effect, Item, need, add, delete, condition, effect, Block, Task, adds, effect_on}
use Rattle.model.specs.Move.{State}
use Rattle.model.specs.Layer.{Value, unbounded, Layer, reaches, usable, layer_value, offer, offered, gained, raised, next, layer}
use Rattle.model.specs.Theorems.Reading.WellFormed.{All, EffectOk, ItemOk, BlockOk, TaskOk}
use Rattle.model.proofs.Theorems.Laws.Booleans.{and_left, and_right, and_both, or_left, or_right, or_cases, cond_cases}
use Rattle.model.proofs.Theorems.Laws.Searching.{below_suc, All-at, any_cases, any_at}
use Rattle.model.specs.Theorems.Layers.Order.{◌⊑◌, ◌≼◌}
use Rattle.model.proofs.Theorems.Layers.Order.{⊑_refl, ⊑_trans, ⊑-unbounded, reaches_mono, highest_cases, highest_left, highest_right, ≼_refl, ≼_trans, layer_value_mono, usable_mono}

-- ---- a block's effect on a variable

-- there is none, or it is an effect of the block on v; Q is what is known of the block's items
pub effect_on_cases :
    (P : Option Effect → Type 0) (Q : Item → Type 0) (v : ℕ) (b : Block)
    → All Q b
    → P none
    → ((e : Effect) → e.var ≡ v → Q (effect e) → P (some e))
    → P (effect_on v b)
unfolding effect_on
effect_on_cases P Q v [] a f g = f
effect_on_cases P Q v (need p ∷ b) a f g = effect_on_cases P Q v b a.1 f g
effect_on_cases P Q v (add p ∷ b) a f g = effect_on_cases P Q v b a.1 f g
effect_on_cases P Q v (delete p ∷ b) a f g = effect_on_cases P Q v b a.1 f g
effect_on_cases P Q v (condition c ∷ b) a f g = effect_on_cases P Q v b a.1 f g
effect_on_cases P Q v (effect e ∷ b) a f g = go (eqb e.var v) (eqb→eq e.var v) (effect_on_cases P Q v b a.1 f g)
  where
    go : (t : Bool) → (T t → e.var ≡ v) → P (effect_on v b) → P (elim t [ true ↦ some e | false ↦ effect_on v b ])
    go true same later = g e (same tt) a.0
    go false same later = later

-- ---- the value that the next layer has: the old one, or what a usable move offers
module _ (l : Layer) (v : ℕ) where
  -- what a move offers v
  abbrev pub offer_of : Block → Value
  offer_of m = offered l v (effect_on v m)

  pub raised_cases :
      (P : Value → Type 0) (ms : List Block)
      → P (l.val v)
      → ((b : ℕ) → b < length ms → T (usable l (get_or ms b [])) → P (offer_of (get_or ms b [])))
      → P (raised l v ms)
  unfolding raised
  raised_cases P [] old new = old
  raised_cases P (m ∷ ms) old new =
      highest_cases P (cond (usable l m) (offer_of m) (l.val v)) (raised l v ms)
      (λ h. cond_cases P (usable l m) (offer_of m) (l.val v) (λ t. new zero (omega arith) t) (λ t. old))
      (λ h. raised_cases P ms old (λ b h. new (suc b) (omega arith)))

  pub raised_old : (ms : List Block) → l.val v ⊑ raised l v ms
  unfolding raised
  raised_old [] = ⊑_refl (l.val v)
  raised_old (m ∷ ms) = ⊑_trans (raised_old ms) (highest_right (cond (usable l m) (offer_of m) (l.val v)) (raised l v ms))

  pub raised_offer :
      (ms : List Block) (b : ℕ)
      → b < length ms
      → T (usable l (get_or ms b []))
      → offer_of (get_or ms b []) ⊑ raised l v ms
  unfolding raised
  raised_offer [] b h t = absurd (not-suc-le-zero h)
  raised_offer (m ∷ ms) zero h t =
      ⊑_trans
      (cond_cases (λ x. offer_of m ⊑ x) (usable l m) (offer_of m) (l.val v) (λ u. ⊑_refl (offer_of m)) (λ u. absurd (u t)))
      (highest_left (cond (usable l m) (offer_of m) (l.val v)) (raised l v ms))
  raised_offer (m ∷ ms) (suc b) h t =
      ⊑_trans (raised_offer ms b (omega arith) t) (highest_right (cond (usable l m) (offer_of m) (l.val v)) (raised l v ms))

  pub raised_least :
      {x : Value} (ms : List Block)
      → l.val v ⊑ x
      → ((b : ℕ) → b < length ms → T (usable l (get_or ms b [])) → offer_of (get_or ms b []) ⊑ x)
      → raised l v ms ⊑ x
  raised_least {x} ms old new = raised_cases (λ y. y ⊑ x) ms old new

-- ---- the propositions that the next layer gains
module _ (l : Layer) (p : ℕ) where
  pub gained_cases :
      {X : Type 0} (ms : List Block)
      → T (gained l p ms)
      → ((b : ℕ) → b < length ms → T (usable l (get_or ms b [])) → T (adds p (get_or ms b [])) → X)
      → X
  unfolding gained
  gained_cases ms t f =
      any_cases (λ m. usable l m && adds p m) ms [] t
      (λ b h both. f b h (and_left (can b) (adding b) both) (and_right (can b) (adding b) both))
    where
      can : ℕ → Bool
      can b = usable l (get_or ms b [])

      adding : ℕ → Bool
      adding b = adds p (get_or ms b [])

  pub gained_at :
      (ms : List Block) (b : ℕ)
      → b < length ms
      → T (usable l (get_or ms b []))
      → T (adds p (get_or ms b []))
      → T (gained l p ms)
  unfolding gained
  gained_at ms b h u a =
      any_at (λ m. usable l m && adds p m) ms [] b h (and_both (usable l (get_or ms b [])) (adds p (get_or ms b [])) u a)

-- ---- the next layer
pub next_above : (ms : List Block) (l : Layer) → l ≼ next ms l
unfolding next
next_above ms l = record { has = λ p t. or_left (l.has p) (gained l p ms) t; val = λ v. raised_old l v ms }

-- and it is below every layer that has what the old one has and what each usable move gives
pub next_least :
    (ms : List Block) {l k : Layer}
    → l ≼ k
    → ((b p : ℕ) → b < length ms → T (usable l (get_or ms b [])) → T (adds p (get_or ms b [])) → T (k.has p))
    → ((b v : ℕ) → b < length ms → T (usable l (get_or ms b [])) → offered l v (effect_on v (get_or ms b [])) ⊑ k.val v)
    → next ms l ≼ k
unfolding next
next_least ms {l} {k} h props vals =
    record {
      has = λ p t. or_cases (l.has p) (gained l p ms) t (h.has p) (λ g. gained_cases l p ms g (λ b. props b p));
      val = λ v. raised_least l v ms (h.val v) (λ b. vals b v);
    }

-- what an effect offers rises with the layer
pub offered_mono :
    {L : Limits} {props vars : ℕ} {b : Block} {l k : Layer} (v : ℕ)
    → BlockOk L normal props vars b
    → l ≼ k
    → offered l v (effect_on v b) ⊑ offered k v (effect_on v b)
unfolding offered offer
offered_mono {L} {props} {vars} {b} {l} {k} v ok h =
    effect_on_cases (λ o. offered l v o ⊑ offered k v o) (ItemOk L normal props vars) v b ok.items (h.val v)
    (λ e at-v e-ok. by_kind e.kind e e-ok)
  where
    unraised : (e : Effect) → (T (reaches (layer_value l e) (pos 1)) → ⊥) → offer l v increase (layer_value l e) ⊑ k.val v
    unraised e not-above =
        cond_cases (λ x. x ⊑ k.val v) (reaches (layer_value l e) (pos 1)) unbounded (l.val v)
        (λ t. absurd (not-above t)) (λ t. h.val v)

    by_kind :
        (d : Kind) (e : Effect)
        → EffectOk L normal vars e
        → offer l v d (layer_value l e) ⊑ offer k v d (layer_value k e)
    by_kind assign e e-ok = layer_value_mono e-ok h
    by_kind increase e e-ok =
        cond_cases (λ y. offer l v increase (layer_value l e) ⊑ y) (reaches (layer_value k e) (pos 1)) unbounded (k.val v)
        (λ above. ⊑-unbounded (offer l v increase (layer_value l e)))
        (λ not-above. unraised e (λ t. not-above (reaches_mono (pos 1) (layer_value_mono e-ok h) t)))
    by_kind decrease e e-ok = h.val v

-- from a higher layer the step leads to a higher one
pub next_mono :
    {L : Limits} {props vars : ℕ} {l k : Layer} (ms : List Block)
    → ((b : ℕ) → b < length ms → BlockOk L normal props vars (get_or ms b []))
    → l ≼ k
    → next ms l ≼ next ms k
unfolding next
next_mono {l} {k} ms ok h =
    next_least ms (≼_trans h (next_above ms k))
    (λ b p lt u a. or_right (k.has p) (gained k p ms) (gained_at k p ms b lt (usable_mono (ok b lt) h u) a))
    (λ b v lt u. ⊑_trans (offered_mono v (ok b lt) h) (raised_offer k v ms b lt (usable_mono (ok b lt) h u)))

-- a move of an accepted task
pub move_ok :
    {L : Limits} {f : Form} {k : Task}
    → TaskOk L f k
    → (b : ℕ)
    → b < length k.moves
    → BlockOk L f k.props k.vars (get_or k.moves b [])
move_ok {L} {f} {k} ok b h = All-at (BlockOk L f k.props k.vars) k.moves b [] ok.blocks h

-- ---- the layers of a state rise
pub layer_rises : (ms : List Block) (s : State) (t : ℕ) → layer ms s t ≼ layer ms s (suc t)
unfolding layer
layer_rises ms s t = next_above ms (layer ms s t)

pub layer_mono : (ms : List Block) (s : State) {t u : ℕ} → t ≤ u → layer ms s t ≼ layer ms s u
layer_mono ms s {t} {u = zero} h =
    let e : t ≡ 0 = omega arith in
    subst (λ (n : ℕ). layer ms s n ≼ layer ms s 0) (sym e) (≼_refl (layer ms s 0))
layer_mono ms s {t} {u = suc u} h =
    below_suc t (suc u) (omega arith)
    (λ k. ≼_trans (layer_mono ms s (omega arith)) (layer_rises ms s u))
    (λ e. subst (λ (n : ℕ). layer ms s n ≼ layer ms s (suc u)) (sym e) (≼_refl (layer ms s (suc u))))
