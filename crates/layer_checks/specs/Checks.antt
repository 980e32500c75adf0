-- The checks of a new layer in its arrays: is it equal to the last one, is a finite value above the limit; and what such a row is.
-- Assumes nothing.
use Rattle.std.specs.Prelude.{ℕ, zero, suc, ◌<◌, ◌≡◌, refl, Bool, true, false, not, ◌&&◌, ◌||◌, List, ℤ, pos, get_or, ◌≤ℤ◌}
use Rattle.std.proofs.Common.{arith, sym, ap, ap₂, ◌∙◌}
use Rattle.std.specs.Bool.{beq}
use Rattle.std.specs.Int.Signed.{le_z, lt_z}
use Rattle.integer.specs.Linear.{zlin, nat_abs_split, le_true, le_le_z, lt_le_z, le_lt_z, lt_lt_z, le_false}
use Rattle.model.specs.Limits.{paper}
use Rattle.model.specs.Lists.{all_below, any_below}
use Rattle.model.specs.Layer.{Value, finite, unbounded, Layer, same_value, same_layer}
use Rattle.model.specs.Memory.{unbounded_mark, encode, too_large}
use Rattle.model.proofs.Theorems.Laws.Booleans.{T_true, true_t}
use Rattle.model.specs.Theorems.Layers.Order.{◌⊑◌}
use Rattle.model.proofs.Theorems.Layers.Order.{⊑-finite}
use Rattle.model.proofs.Theorems.Laws.Searching.{all_below_at}
use Rattle.block.specs.Sums.{Sized, Encoded, LayerRow, is_mark, encoded_more}
use Rattle.layer_checks.specs.Comparing.{same_truth, not_above, within_limit, within_at}
use Rattle.layer_memory.specs.Arrays.{Truths, Values, effect_size}

all_below_same : (f g : ℕ → Bool) (n : ℕ) → ((i : ℕ) → i < n → f i ≡ g i) → all_below f n ≡ all_below g n
unfolding all_below
all_below_same f g zero h = refl
all_below_same f g (suc n) h = ap₂ ◌&&◌ (all_below_same f g n (λ i k. h i (omega arith))) (h n (omega arith))

-- none is where not all are not
all_below_not : (f g : ℕ → Bool) (n : ℕ) → ((i : ℕ) → i < n → f i ≡ not (g i)) → all_below f n ≡ not (any_below g n)
unfolding all_below any_below
all_below_not f g zero h = refl
all_below_not f g (suc n) h = ap₂ ◌&&◌ (all_below_not f g n (λ i k. h i (omega arith))) (h n (omega arith)) ∙ go (any_below g n) (g n)
  where
    go : (a b : Bool) → (not a && not b) ≡ not (a || b)
    go true b = refl
    go false b = refl

-- ---- is the next layer equal to the last

-- a value that has not fallen is the same if its number is not above
same_value_lem : {b : ℕ} {x y : Value} {z w : ℤ} → b < unbounded_mark → Encoded b x z → Encoded b y w → x ⊑ y → le_z w z ≡ same_value x y
unfolding encode same_value
same_value_lem {b} {x} {y} {z} {w} small e k up = ap₂ le_z k.is e.is ∙ go x y e.size k.size up
  where
    go : (x y : Value) → Sized b x → Sized b y → x ⊑ y → le_z (encode y) (encode x) ≡ same_value x y
    go (finite u) (finite v) s t h = sym (ap (λ (p : Bool). p && le_z v u) (le_le_z (⊑-finite h)))
    go (finite u) unbounded s t h = lt_le_z {a = pos unbounded_mark} {b = u} (omega (zlin, nat_abs_split u))
    go unbounded (finite v) s t h = absurd h.below
    go unbounded unbounded s t h = refl

pub same_layer_lem :
    {props vars : ℕ} {has flags : List Bool} {row next : List ℤ} {l m : Layer}
    → Truths props has l.has
    → Truths props flags m.has
    → LayerRow vars row l.val
    → Values effect_size vars next m.val
    → ((v : ℕ) → l.val v ⊑ m.val v)
    → (all_below (same_truth has flags) props && all_below (not_above row next) vars) ≡ same_layer props vars l m
unfolding same_layer same_truth not_above
same_layer_lem {props} {vars} {has} {flags} {row} {next} {l} {m} a b r q up =
    ap₂ ◌&&◌
    (all_below_same (same_truth has flags) (λ p. beq (l.has p) (m.has p)) props (λ p h. ap₂ beq (a.same p h) (b.same p h)))
    (all_below_same (not_above row next) (λ v. same_value (l.val v) (m.val v)) vars (λ v h. same_value_lem (omega arith) (widened v h) (q.each v h) (up v)))
  where
    widened : (v : ℕ) → v < vars → Encoded effect_size (l.val v) (get_or row v (pos 0))
    widened v h = encoded_more (omega arith) (r.each v h)

-- ---- "15 | a finite value above 1,000,000,000,000"

within_value : {x : Value} {z : ℤ} → Encoded effect_size x z → within_limit z ≡ not (too_large paper x)
unfolding encode within_limit too_large paper is_mark
within_value {x} {z} e = ap within_limit e.is ∙ go x e.size
  where
    over : (a b : ℤ) (t : Bool) → le_z a b ≡ t → t ≡ not (lt_z b a)
    over a b true h = sym (ap not (le_lt_z (le_true a b h)))
    over a b false h = sym (ap not (lt_lt_z (le_false a b h)))

    go : (x : Value) → Sized effect_size x → within_limit (encode x) ≡ not (too_large paper x)
    go (finite u) s =
        ap (λ (t : Bool). t || le_z u (pos paper.layer_value)) (lt_le_z {a = pos unbounded_mark} {b = u} (omega (zlin, nat_abs_split u)))
        ∙ over u (pos paper.layer_value) (le_z u (pos paper.layer_value)) refl
    go unbounded s = refl

pub within_layer :
    {vars : ℕ} {next : List ℤ} {f : ℕ → Value}
    → Values effect_size vars next f
    → all_below (within_at next) vars ≡ not (any_below (λ v. too_large paper (f v)) vars)
unfolding within_at
within_layer {vars} {next} {f} q =
    all_below_not (within_at next) (λ v. too_large paper (f v)) vars (λ v h. within_value (q.each v h))

-- a value that has not fallen and is within the limit is as small as a layer's values are
small_value : {x y : Value} {z w : ℤ} → Encoded paper.layer_value x z → Encoded effect_size y w → x ⊑ y → within_limit w ≡ true → Encoded paper.layer_value y w
unfolding encode within_limit is_mark paper
small_value {x} {y} {z} {w} e k up t = record { is = k.is; size = go x y e.size k.size up (sym (ap within_limit k.is) ∙ t) }
  where
    go : (x y : Value) → Sized paper.layer_value x → Sized effect_size y → x ⊑ y → within_limit (encode y) ≡ true → Sized paper.layer_value y
    go x unbounded s r h i = tt
    go unbounded (finite v) s r h i = absurd h.below
    go (finite u) (finite v) s r h i =
        let low : u ≤ℤ v = ⊑-finite h in
        let no-mark : is_mark v ≡ false = lt_le_z {a = pos unbounded_mark} {b = v} (omega (zlin, nat_abs_split v)) in
        let top : v ≤ℤ pos paper.layer_value = le_true v (pos paper.layer_value) (sym (ap (λ (t : Bool). t || le_z v (pos paper.layer_value)) no-mark) ∙ i) in
        omega (zlin, nat_abs_split u, nat_abs_split v)

pub small_row :
    {vars : ℕ} {row next : List ℤ} {f g : ℕ → Value}
    → LayerRow vars row f
    → Values effect_size vars next g
    → ((v : ℕ) → f v ⊑ g v)
    → all_below (within_at next) vars ≡ true
    → LayerRow vars next g
unfolding within_at paper
small_row {vars} {next} r q up t =
    record {
      long = q.long;
      each = λ v h. small_value (r.each v h) (q.each v h) (up v) (T_true (within_at next v) (all_below_at (within_at next) vars (true_t t) v h));
    }
