-- "A next layer equal to layer t": the comparison over the table's propositions and variables decides that the two layers are
-- equal everywhere, for a move names no others. Assumes nothing.
use Rattle.std.specs.Prelude.{ℕ, suc, ◌<◌, ◌≡◌, refl, ◌↔◌, Bool, true, false, eqb, length, get_or}
use Rattle.std.proofs.Common.{sym, eqb→eq}
use Rattle.std.proofs.Math.Path.{ap, subst}
use Rattle.std.specs.Bool.{beq}
use mathlib.Core.List.{List, [], ◌∷◌}
use Rattle.std.proofs.Math.Dec.{T}
use Rattle.std.specs.Int.Signed.{le_z}
use Rattle.model.specs.Limits.{Limits}
use Rattle.model.specs.Lists.{any, all_below}
use Rattle.model.specs.Task.{Form, need, add, delete, condition, effect, Block, Task, is_add, adds, effect_on}
use Rattle.model.specs.Move.{State}
use Rattle.model.specs.Layer.{Value, finite, unbounded, Layer, usable, offered, gained, raised, next, layer, same_value, same_layer, layer_at, settled}
use Rattle.model.specs.Theorems.Reading.WellFormed.{All, ItemOk, TaskOk}
use Rattle.model.proofs.Theorems.Laws.Booleans.{T_true, true_t, not-false, false_not, T-stable, T-cases, T-equal, and_left, and_right, and_both, or_right, or_cases, beq_equal, equal_beq}
use Rattle.model.proofs.Theorems.Laws.Searching.{all_below_at, all_below_fails}
use Rattle.model.specs.Theorems.Layers.Order.{◌⊑◌, ◌≼◌}
use Rattle.model.proofs.Theorems.Layers.Order.{⊑_refl, ⊑_trans, ≡-⊑, ⊑-antisym, ≼_refl, ≼-antisym}
use Rattle.model.proofs.Theorems.Layers.NextLayer.{effect_on_cases, raised_offer, gained_at, next_above, next_least, move_ok, layer_rises}
use Rattle.model.specs.Theorems.Layers.Settled.{Agree}

-- ---- the comparison of values

pub same_value_equal : (x y : Value) → T (same_value x y) → x ≡ y
unfolding same_value
same_value_equal (finite a) (finite b) t =
    ⊑-antisym (record { below = and_left (le_z a b) (le_z b a) t }) (record { below = and_right (le_z a b) (le_z b a) t })
same_value_equal (finite a) unbounded t = absurd t
same_value_equal unbounded (finite b) t = absurd t
same_value_equal unbounded unbounded t = refl

pub antisym_same_value : (x y : Value) → x ⊑ y → y ⊑ x → T (same_value x y)
unfolding same_value
antisym_same_value (finite a) (finite b) h k = and_both (le_z a b) (le_z b a) h.below k.below
antisym_same_value (finite a) unbounded h k = k.below
antisym_same_value unbounded (finite b) h k = h.below
antisym_same_value unbounded unbounded h k = tt

-- ---- the comparison of layers, over the table's propositions and variables
module _ (props vars : ℕ) (l k : Layer) where
  abbrev same_prop : ℕ → Bool
  same_prop p = beq (l.has p) (k.has p)

  abbrev same_val : ℕ → Bool
  same_val v = same_value (l.val v) (k.val v)

  pub same_layer_has : T (same_layer props vars l k) → (p : ℕ) → p < props → l.has p ≡ k.has p
  unfolding same_layer
  same_layer_has t p h =
      beq_equal (l.has p) (k.has p)
      (all_below_at same_prop props (and_left (all_below same_prop props) (all_below same_val vars) t) p h)

  pub same_layer_val : T (same_layer props vars l k) → (v : ℕ) → v < vars → l.val v ≡ k.val v
  unfolding same_layer
  same_layer_val t v h =
      same_value_equal (l.val v) (k.val v)
      (all_below_at same_val vars (and_right (all_below same_prop props) (all_below same_val vars) t) v h)

  -- where a layer below another is not the same, a proposition is new or a value is not below the old one
  pub same_layer_fails :
      {X : Type 0}
      → l ≼ k
      → (T (same_layer props vars l k) → ⊥)
      → ((p : ℕ) → p < props → (T (l.has p) → ⊥) → T (k.has p) → X)
      → ((v : ℕ) → v < vars → (k.val v ⊑ l.val v → ⊥) → X)
      → X
  unfolding same_layer
  same_layer_fails {X} rises differ newProp newVal =
      T-cases (all_below same_prop props)
      (λ same. all_below_fails same_val vars (λ t. differ (and_both (all_below same_prop props) (all_below same_val vars) same t)) by_val)
      (λ other. all_below_fails same_prop props other by_prop)
    where
      by_val : (v : ℕ) → v < vars → (T (same_val v) → ⊥) → X
      by_val v h other = newVal v h (λ le. other (antisym_same_value (l.val v) (k.val v) (rises.val v) le))

      agree : (p : ℕ) → (T (k.has p) → T (l.has p)) → T (same_prop p)
      agree p back = equal_beq (l.has p) (k.has p) (T-equal (l.has p) (k.has p) (rises.has p) back)

      by_prop : (p : ℕ) → p < props → (T (same_prop p) → ⊥) → X
      by_prop p h other =
          T-cases (k.has p)
          (λ present. newProp p h (λ old. other (agree p (λ t. old))) present)
          (λ absent. absurd (other (agree p (λ t. absurd (absent t)))))

-- ---- a move names only what the table has
module _ (L : Limits) (f : Form) (props vars : ℕ) where
  pub adds_below : (p : ℕ) (b : Block) → All (ItemOk L f props vars) b → T (adds p b) → p < props
  unfolding adds any is_add
  adds_below p [] ok t = absurd t
  adds_below p (need q ∷ b) ok t = adds_below p b ok.1 t
  adds_below p (add q ∷ b) ok t =
      or_cases (eqb q p) (adds p b) t (λ same. subst (λ (n : ℕ). n < props) (eqb→eq q p same) ok.0) (adds_below p b ok.1)
  adds_below p (delete q ∷ b) ok t = adds_below p b ok.1 t
  adds_below p (condition c ∷ b) ok t = adds_below p b ok.1 t
  adds_below p (effect e ∷ b) ok t = adds_below p b ok.1 t

-- ---- what the comparison decides
-- where a layer is not settled, the next one has a proposition more, or a value that is not below the old one
pub unsettled_cases :
    {X : Type 0} (k : Task) (s : State) (t : ℕ)
    → settled k s t ≡ false
    → ((p : ℕ) → p < k.props → (T ((layer_at k s t).has p) → ⊥) → T ((layer_at k s (suc t)).has p) → X)
    → ((v : ℕ) → v < k.vars → ((layer_at k s (suc t)).val v ⊑ (layer_at k s t).val v → ⊥) → X)
    → X
unfolding settled layer_at
unsettled_cases k s t e newProp newVal =
    same_layer_fails k.props k.vars (layer_at k s t) (layer_at k s (suc t)) (layer_rises k.moves s t) (false_not e)
    newProp newVal

-- `settled` holds exactly when layer t and its next one agree on every proposition and every variable of the table
pub settled_agree : (k : Task) (s : State) (t : ℕ) → (settled k s t ≡ true) ↔ Agree k (layer_at k s t) (layer_at k s (suc t))
unfolding settled layer_at
settled_agree k s t = (
  λ e.
      let same = true_t e in
      record { props = same_layer_has k.props k.vars l m same; vars = same_layer_val k.props k.vars l m same },
  λ agree.
      T_true (settled k s t) (T-stable (settled k s t) (λ differ.
      unsettled_cases k s t (not-false (settled k s t) differ)
      (λ p h fresh present. fresh (subst T (sym (agree.props p h)) present))
      (λ v h higher. higher (≡-⊑ (sym (agree.vars v h)))))),
)
  where
    l : Layer
    l = layer_at k s t

    m : Layer
    m = layer_at k s (suc t)

-- ---- a settled layer is closed: its next layer is not above it, anywhere
module _ {L : Limits} {f : Form} {k : Task} (ok : TaskOk L f k) where
  pub closed_within :
      (l : Layer)
      → ((p : ℕ) → p < k.props → T ((next k.moves l).has p) → T (l.has p))
      → ((v : ℕ) → v < k.vars → (next k.moves l).val v ⊑ l.val v)
      → next k.moves l ≼ l
  unfolding next offered
  closed_within l props vals = next_least ms (≼_refl l) no_prop no_value
    where
      ms : List Block
      ms = k.moves

      no_prop : (b p : ℕ) → b < length ms → T (usable l (get_or ms b [])) → T (adds p (get_or ms b [])) → T (l.has p)
      no_prop b p h u a =
          props p (adds_below L f k.props k.vars p (get_or ms b []) (move_ok ok b h).items a)
          (or_right (l.has p) (gained l p ms) (gained_at l p ms b h u a))

      no_value :
          (b v : ℕ)
          → b < length ms
          → T (usable l (get_or ms b []))
          → offered l v (effect_on v (get_or ms b [])) ⊑ l.val v
      no_value b v h u =
          effect_on_cases (λ o. offered l v o ⊑ raised l v ms → offered l v o ⊑ l.val v)
          (ItemOk L f k.props k.vars) v (get_or ms b []) (move_ok ok b h).items
          (λ le. ⊑_refl (l.val v))
          (λ e at-v e-ok le. ⊑_trans le (vals v (subst (λ (n : ℕ). n < k.vars) at-v e-ok.var)))
          (raised_offer l v ms b h u)

  pub settled_closed : (s : State) (t : ℕ) → settled k s t ≡ true → next k.moves (layer_at k s t) ≼ layer_at k s t
  unfolding layer_at layer
  settled_closed s t e =
      let agree = (settled_agree k s t).0 e in
      closed_within (layer_at k s t) (λ p h. subst T (sym (agree.props p h))) (λ v h. ≡-⊑ (sym (agree.vars v h)))

  -- "A next layer equal to layer t": `settled` holds exactly when the two layers are equal
  pub settled_equal : (s : State) (t : ℕ) → (settled k s t ≡ true) ↔ (layer_at k s (suc t) ≡ layer_at k s t)
  unfolding layer_at layer
  settled_equal s t = (
    λ e. ≼-antisym (settled_closed s t e) (next_above k.moves (layer_at k s t)),
    λ e.
        (settled_agree k s t).1 (record {
          props = λ p h. ap (λ (l : Layer). l.has p) (sym e);
          vars = λ v h. ap (λ (l : Layer). l.val v) (sym e);
        }),
  )
