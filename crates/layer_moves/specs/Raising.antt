-- One value of the next layer raised to what an effect offers.
-- Assumes nothing.
use Rattle.std.specs.Prelude.{ℕ, ◌≤◌, ◌<◌, ◌≡◌, refl, Bool, true, false, List, ℤ, pos, length, get_or, set}
use Rattle.std.proofs.Common.{arith, sym, ◌∙◌}
use Rattle.std.proofs.Math.Path.{subst}
use Rattle.std.proofs.Math.IntN.{nat_abs}
use Rattle.std.proofs.lemmas.List.{set-get_or}
use Rattle.integer.specs.Linear.{larger}
use Rattle.model.specs.Limits.{paper}
use Rattle.model.specs.Task.{Form, normal, Kind, assign, increase, decrease, Block}
use Rattle.model.specs.Command.{kind_code}
use Rattle.model.specs.Layer.{Value, finite, unbounded, Layer, plus, layer_sum, reaches, highest, layer_value, offer}
use Rattle.model.specs.Memory.{unbounded_mark, encode}
use Rattle.model.specs.Theorems.Reading.WellFormed.{KindOk}
use Rattle.model.specs.Theorems.Layers.Order.{◌⊑◌}
use Rattle.model.proofs.Theorems.Layers.Order.{⊑_refl, ⊑-antisym, ⊑-unbounded, highest_left, highest_least}
use Rattle.layer_memory.specs.Arrays.{effect_size, encoded_same}
use Rattle.block.specs.Items.{Ranges, EffectFound}
use Rattle.block.specs.Sums.{Encoded, is_mark, mark_yes, LayerRow, LayerSummable, IsLayerValue, encoded_more, encoded_highest}

-- the larger of two numbers stands for the higher value
pub highest_old : {x y : Value} → x ⊑ y → highest y x ≡ y
highest_old {x} {y} h = ⊑-antisym (highest_least (⊑_refl y) h) (highest_left y x)

-- what an effect offers, in every reading
pub record IsOffer (kind : ℕ) (value old r : ℤ) : Type 0 where
  pub is : (l : Layer) (v : ℕ) (d : Kind) (x : Value) → KindOk normal d → kind_code d ≡ kind → Encoded effect_size x value → Encoded effect_size (l.val v) old → Encoded effect_size (offer l v d x) r

-- a := offers its value
pub offer_assign : {kind : ℕ} {value : ℤ} (old : ℤ) → kind ≡ 0 → IsOffer kind value old value
unfolding offer kind_code
offer_assign {kind} {value} old e = record { is = go }
  where
    go : (l : Layer) (v : ℕ) (d : Kind) (x : Value) → KindOk normal d → kind_code d ≡ kind → Encoded effect_size x value → Encoded effect_size (l.val v) old → Encoded effect_size (offer l v d x) value
    go l v assign x ok k h o = h
    go l v increase x ok k h o = absurd (omega arith)
    go l v decrease x ok k h o = absurd ok

module _ {kind : ℕ} {value old : ℤ} (e : kind ≡ 0 → ⊥) {t : Bool} (test : (x : Value) → value ≡ encode x → t ≡ reaches x (pos 1)) where
  -- a += whose value is at least 1 makes its variable unbounded
  pub offer_unbounded : t ≡ true → IsOffer kind value old (pos unbounded_mark)
  unfolding offer kind_code encode
  offer_unbounded above = record { is = go }
    where
      go : (l : Layer) (v : ℕ) (d : Kind) (x : Value) → KindOk normal d → kind_code d ≡ kind → Encoded effect_size x value → Encoded effect_size (l.val v) old → Encoded effect_size (offer l v d x) (pos unbounded_mark)
      go l v assign x ok k h o = absurd (e (sym k))
      go l v increase x ok k h o = rw (sym (test x h.is) ∙ above) (record { is = refl; size = tt })
      go l v decrease x ok k h o = absurd ok

  -- any other leaves it
  pub offer_old : t ≡ false → IsOffer kind value old old
  unfolding offer kind_code
  offer_old no_test = record { is = go }
    where
      go : (l : Layer) (v : ℕ) (d : Kind) (x : Value) → KindOk normal d → kind_code d ≡ kind → Encoded effect_size x value → Encoded effect_size (l.val v) old → Encoded effect_size (offer l v d x) old
      go l v assign x ok k h o = absurd (e (sym k))
      go l v increase x ok k h o = rw (sym (test x h.is) ∙ no_test) o
      go l v decrease x ok k h o = absurd ok

-- an effect of a normal table stands there, over some layer
pub record Raisable (part : List ℕ) (kind v : ℕ) (c : ℤ) (from n : ℕ) (row next : List ℤ) : Type 0 where
  pub ranges : Ranges
  pub over : ℕ → Value
  pub behind : ℕ
  pub rest : Block
  pub found : EffectFound ranges part kind v c from n behind rest
  pub row_is : LayerRow ranges.vars row over
  pub room : ranges.vars ≤ length next

-- the value of v is raised to what the effect offers, in every reading
pub record IsRaised (part : List ℕ) (kind v : ℕ) (c : ℤ) (from n : ℕ) (row old new : List ℤ) : Type 0 where
  pub worth : ℤ
  pub is : new ≡ set old v worth
  pub right :
      (k : Ranges) (l : Layer) (behind : ℕ) (rest : Block) (g : EffectFound k part kind v c from n behind rest) (x : Value)
      → k.form ≡ normal
      → LayerRow k.vars row l.val
      → Encoded effect_size x (get_or old v (pos 0))
      → Encoded effect_size (highest x (offer l v g.it.kind (layer_value l g.it))) worth

kind_normal : {f : Form} (d : Kind) → f ≡ normal → KindOk f d → KindOk normal d
kind_normal d e ok = subst (λ (f : Form). KindOk f d) e ok

pub var_small : {k : Ranges} {part : List ℕ} {kd v : ℕ} {c : ℤ} {from n behind : ℕ} {rest : Block} → EffectFound k part kd v c from n behind rest → v < k.vars
var_small {k} g = subst (λ (u : ℕ). u < k.vars) g.var g.followed.ok.var

module _ {part : List ℕ} {kind v : ℕ} {c : ℤ} {from n : ℕ} {row next : List ℤ} (p : Raisable part kind v c from n row next) where
  pub raisable_summable : LayerSummable part from n row
  raisable_summable = record { ranges = p.ranges; ts = p.found.it.terms; val = p.over; terms = p.found.is.terms; row = p.row_is }

  pub raisable_row : v < length row
  raisable_row = omega (arith, var_small p.found, p.row_is.long)

  pub raisable_next : v < length next
  raisable_next = omega (arith, var_small p.found, p.room)

  pub raisable_base : nat_abs c ≤ 1_000_000
  unfolding paper
  raisable_base = subst (λ (z : ℤ). nat_abs z ≤ 1_000_000) p.found.is.base p.found.followed.ok.base

pub raised_by :
    {part : List ℕ} {kind v : ℕ} {c : ℤ} {from n : ℕ} {row old new : List ℤ} {value z : ℤ}
    → IsLayerValue part from n c row value
    → IsOffer kind value (get_or row v (pos 0)) z
    → new ≡ set old v (larger (get_or old v (pos 0)) z)
    → IsRaised part kind v c from n row old new
unfolding layer_value
raised_by {part} {kind} {v} {c} {from} {n} {row} {old} {value} {z} q o e =
    record {
      worth = larger (get_or old v (pos 0)) z;
      is = e;
      right =
          λ k l behind rest g x f r so_far.
          encoded_highest (omega arith) so_far
          (o.is l v g.it.kind (layer_value l g.it) (kind_normal g.it.kind f g.followed.ok.kind) g.is.kind
          (subst (λ (y : ℤ). Encoded effect_size (plus (layer_sum l.val g.it.terms) (finite y)) value) (sym g.is.base) (q.is k g.it.terms l.val g.is.terms r))
          (encoded_more (omega arith) (r.each v (var_small g))));
    }

-- nothing is above unbounded
pub raised_already :
    {part : List ℕ} {kind v : ℕ} {c : ℤ} {from n : ℕ} {row old : List ℤ}
    → is_mark (get_or old v (pos 0)) ≡ true
    → IsRaised part kind v c from n row old old
raised_already {v} {old} m =
    record {
      worth = get_or old v (pos 0);
      is = sym (set-get_or old v (pos 0));
      right =
          λ k l behind rest g x f r so_far.
          let top : x ≡ unbounded = mark_yes (omega arith) so_far m in
          let y = offer l v g.it.kind (layer_value l g.it) in
          encoded_same (sym (highest_old (subst (λ (z : Value). y ⊑ z) (sym top) (⊑-unbounded y)))) so_far;
    }
