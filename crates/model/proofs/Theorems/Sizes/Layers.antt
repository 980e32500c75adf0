-- Sizes of the numbers of a layer without a finite value above 1,000,000,000,000 (document 01, refusal 15): its values, its sums
-- and its effects' values, and those of the next layer before it is checked. All stay far within 64 bits. Assumes nothing.
use Rattle.std.specs.Prelude.{ℕ, ◌-◌, ◌*◌, ◌^◌, ◌≤◌, ◌<◌, ◌≡◌, refl, false, List, [], ◌∷◌, T, ℤ, pos, nat_abs, ◌+ℤ◌, ◌*ℤ◌, length, get_or, ◌<ℤ◌}
use Rattle.std.proofs.Common.{arith, ap, subst}
use Rattle.std.specs.Int.Signed.{lt_z, lt_z_yes}
use Rattle.integer.specs.Linear.{zlin, lt_false, ≤_trans, size_above, size_below}
use Rattle.model.specs.Limits.{paper}
use Rattle.model.specs.Task.{normal, Term, Kind, assign, increase, decrease, Effect, Block, Task, effect_on}
use Rattle.model.specs.Move.{State, sum}
use Rattle.model.specs.Layer.{Value, finite, unbounded, Layer, plus, times, layer_sum, reaches, highest, layer_value, offer, offered, next, layer_of, layer, layer_at}
use Rattle.model.specs.Memory.{encode, too_large, wrong15}
use Rattle.model.specs.Plan.{low_value, low}
use Rattle.model.specs.Theorems.Reading.WellFormed.{All, TermOk, EffectOk, ItemOk, BlockOk, TaskOk}
use Rattle.model.proofs.Theorems.Laws.Booleans.{not-false, false_not, cond_cases}
use Rattle.model.proofs.Theorems.Laws.Searching.{All-map, any_below_at, any_below_cases}
use Rattle.model.specs.Theorems.Layers.Order.{◌⊑◌}
use Rattle.model.proofs.Theorems.Layers.Order.{⊑-finite, highest_cases}
use Rattle.model.proofs.Theorems.Layers.NextLayer.{effect_on_cases, raised_cases, move_ok, layer_mono}
use Rattle.model.specs.Theorems.Sizes.Bounds.{Between, FewTerms}
use Rattle.model.proofs.Theorems.Sizes.Bounds.{between_wider, between_size, size_between, between_sum, product_between, sum_between, sum_few}
use Rattle.model.specs.Theorems.Sizes.States.{SmallState}
use Rattle.model.specs.Theorems.Sizes.Layers.{FiniteBetween, IfFinite, SmallLayer}

-- what that says of a finite value
pub finite_between : {a b : ℕ} {x : Value} {z : ℤ} → FiniteBetween a b x → x ≡ finite z → Between a b z
finite_between {a} {b} h e = subst (IfFinite (Between a b)) e h.if_finite

-- its size, where a and b are at most n
pub finite_size : {a b : ℕ} {x : Value} {z : ℤ} (n : ℕ) → a ≤ n → b ≤ n → FiniteBetween a b x → x ≡ finite z → nat_abs z ≤ n
finite_size n h k i e = between_size n h k (finite_between i e)

-- "unbounded being 2^63 − 1": no finite value is stored as that
pub encode_unbounded : {a b : ℕ} (x : Value) → b < 2 ^ 63 - 1 → FiniteBetween a b x → encode x ≡ pos (2 ^ 63 - 1) → x ≡ unbounded
unfolding encode
encode_unbounded (finite z) h i e = absurd (omega (zlin, i.if_finite.to, e))
encode_unbounded unbounded h i e = refl

-- the larger of what was found and what is offered
pub highest_between : {a b : ℕ} (x y : Value) → FiniteBetween a b x → FiniteBetween a b y → FiniteBetween a b (highest x y)
highest_between {a} {b} x y h k = highest_cases (FiniteBetween a b) x y (λ l. h) (λ l. k)

finite_wider : {a b c d : ℕ} {x : Value} → a ≤ c → b ≤ d → FiniteBetween a b x → FiniteBetween c d x
finite_wider {x = finite z} h k i = record { if_finite = between_wider h k i.if_finite }
finite_wider {x = unbounded} h k i = record { if_finite = tt }

-- "15 | a finite value above 1,000,000,000,000": a layer without one is such a layer, since "layer 0 is the state" and layers
-- never fall
pub layer_small :
    (k : Task) (s : State) (t : ℕ)
    → SmallState k.vars s
    → wrong15 paper k s t ≡ false
    → SmallLayer k.vars (layer_at k s t)
unfolding layer_at layer layer_of wrong15 too_large paper
layer_small k s t start right =
    record {
      values =
          λ v h. go ((layer_at k s t).val v) ((layer_mono k.moves s {t = 0} {u = t} (omega arith)).val v)
          (λ large. false_not right (any_below_at (λ u. too_large paper ((layer_at k s t).val u)) k.vars v h large))
          (start.values v h);
    }
  where
    go :
        {y : ℤ} (x : Value)
        → finite y ⊑ x
        → (T (too_large paper x) → ⊥)
        → nat_abs y ≤ 1_000_000
        → FiniteBetween 1_000_000 1_000_000_000_000 x
    go {y} (finite z) above fits size =
        record {
          if_finite = record {
            from = ≤_trans (size_below y 1_000_000 size) (⊑-finite above);
            to = lt_false (pos 1_000_000_000_000) z (not-false (lt_z (pos 1_000_000_000_000) z) fits);
          };
        }
    go unbounded above fits size = record { if_finite = tt }

-- layer 0 passes the check
pub layer_zero_passes : (k : Task) (s : State) → SmallState k.vars s → wrong15 paper k s 0 ≡ false
unfolding layer_at layer layer_of wrong15 too_large paper
layer_zero_passes k s start =
    not-false (wrong15 paper k s 0)
    (λ wrong. any_below_cases (λ u. too_large paper ((layer_at k s 0).val u)) k.vars wrong
    (λ v h large.
    let above : pos 1_000_000_000_000 <ℤ s.val v = lt_z_yes large in
    omega (zlin, size_above (s.val v) 1_000_000 (start.values v h))))

-- ---- sums and values in a layer
-- a finite sum in a layer is the sum of its layer values
layer_sum_low : (l : Layer) (s : State) (ts : List Term) → IfFinite (λ (z : ℤ). z ≡ sum (low l s) ts) (layer_sum l.val ts)
unfolding layer_sum sum low low_value plus times
layer_sum_low l s [] = refl
layer_sum_low l s (t ∷ ts) = go (l.val t.var) (layer_sum l.val ts) (layer_sum_low l s ts)
  where
    go :
        (x y : Value)
        → IfFinite (λ (z : ℤ). z ≡ sum (low l s) ts) y
        → IfFinite (λ (z : ℤ). z ≡ (t.weight *ℤ low_value x (s.val t.var)) +ℤ sum (low l s) ts) (plus (times t.weight x) y)
    go (finite a) (finite b) e = ap (λ (z : ℤ). (t.weight *ℤ a) +ℤ z) e
    go (finite a) unbounded e = tt
    go unbounded y e = tt

-- a weight times a finite value of such a layer
pub layer_product_between :
    {vars : ℕ} {t : Term} {z : ℤ}
    → TermOk paper normal vars t
    → Between 1_000_000 1_000_000_000_000 z
    → Between 1_000_000_000 1_000_000_000_000_000 (t.weight *ℤ z)
unfolding paper
layer_product_between {t} ok near = product_between {m = 1000} t.weight ok.weight.0 ok.weight.1 near

module _ {vars : ℕ} {l : Layer} {s : State} (small : SmallLayer vars l) (start : SmallState vars s) where
  -- "layer values for finite and state values for other unbounded ones"
  pub low_between : (v : ℕ) → v < vars → Between 1_000_000 1_000_000_000_000 (low l s v)
  unfolding low low_value
  low_between v h = go (l.val v) (small.values v h)
    where
      go :
          (x : Value)
          → FiniteBetween 1_000_000 1_000_000_000_000 x
          → Between 1_000_000 1_000_000_000_000 (low_value x (s.val v))
      go (finite z) i = i.if_finite
      go unbounded i = between_wider (omega arith) (omega arith) (size_between (s.val v) (start.values v h))

  -- their size
  pub low_size : (v : ℕ) → v < vars → nat_abs (low l s v) ≤ 1_000_000_000_000
  low_size v h = between_size 1_000_000_000_000 (omega arith) (omega arith) (low_between v h)

  -- a sum of n terms with those values
  pub low_terms_between :
      (ts : List Term)
      → All (TermOk paper normal vars) ts
      → Between (length ts * 1_000_000_000) (length ts * 1_000_000_000_000_000) (sum (low l s) ts)
  low_terms_between ts ok =
      sum_between 1_000_000_000 1_000_000_000_000_000 (low l s) ts
      (All-map {P = TermOk paper normal vars} ts (λ t t-ok. layer_product_between t-ok (low_between t.var t-ok.var)) ok)

  -- a sum of a table with those values, or a part of one
  pub low_sum_between :
      {ts : List Term}
      → FewTerms normal vars ts
      → Between 8_000_000_000 8_000_000_000_000_000 (sum (low l s) ts)
  low_sum_between {ts} few =
      between_wider (omega (arith, few.few)) (omega (arith, few.few)) (low_terms_between ts few.terms)

  -- its size
  pub low_sum_size : {ts : List Term} → FewTerms normal vars ts → nat_abs (sum (low l s) ts) ≤ 8_000_000_000_000_000
  low_sum_size few = between_size 8_000_000_000_000_000 (omega arith) (omega arith) (low_sum_between few)

  -- a sum in the layer, or a part of one
  pub layer_sum_between :
      {ts : List Term}
      → FewTerms normal vars ts
      → FiniteBetween 8_000_000_000 8_000_000_000_000_000 (layer_sum l.val ts)
  layer_sum_between {ts} few = go (layer_sum l.val ts) (layer_sum_low l s ts)
    where
      go : (x : Value) → IfFinite (λ (z : ℤ). z ≡ sum (low l s) ts) x → FiniteBetween 8_000_000_000 8_000_000_000_000_000 x
      go (finite z) e = record { if_finite = rw e (low_sum_between few) }
      go unbounded e = record { if_finite = tt }

  -- its size where it is finite
  pub layer_sum_size :
      {ts : List Term} {z : ℤ}
      → FewTerms normal vars ts
      → layer_sum l.val ts ≡ finite z
      → nat_abs z ≤ 8_000_000_000_000_000
  layer_sum_size few e = finite_size 8_000_000_000_000_000 (omega arith) (omega arith) (layer_sum_between few) e

  -- an effect's value in the layer
  pub layer_value_between :
      {e : Effect}
      → EffectOk paper normal vars e
      → FiniteBetween 8_001_000_000 8_000_000_001_000_000 (layer_value l e)
  unfolding layer_value plus paper
  layer_value_between {e} ok = go (layer_sum l.val e.terms) (layer_sum_between (sum_few ok.sum))
    where
      go :
          (x : Value)
          → FiniteBetween 8_000_000_000 8_000_000_000_000_000 x
          → FiniteBetween 8_001_000_000 8_000_000_001_000_000 (plus x (finite e.base))
      go (finite z) i = record { if_finite = between_sum i.if_finite (size_between e.base ok.base) }
      go unbounded i = record { if_finite = tt }

  -- its size where it is finite
  pub layer_value_size :
      {e : Effect} {z : ℤ}
      → EffectOk paper normal vars e
      → layer_value l e ≡ finite z
      → nat_abs z ≤ 8_000_000_001_000_000
  layer_value_size ok e = finite_size 8_000_000_001_000_000 (omega arith) (omega arith) (layer_value_between ok) e

  -- what a move's effect offers a variable, before the larger is taken
  pub offered_between :
      {props : ℕ} (v : ℕ) (b : Block)
      → v < vars
      → BlockOk paper normal props vars b
      → FiniteBetween 8_001_000_000 8_000_000_001_000_000 (offered l v (effect_on v b))
  unfolding offered offer
  offered_between {props} v b h ok =
      effect_on_cases (λ o. FiniteBetween 8_001_000_000 8_000_000_001_000_000 (offered l v o))
      (ItemOk paper normal props vars) v b ok.items
      old (λ e at-v e-ok. by_kind e.kind (layer_value_between e-ok))
    where
      old : FiniteBetween 8_001_000_000 8_000_000_001_000_000 (l.val v)
      old = finite_wider (omega arith) (omega arith) (small.values v h)

      by_kind :
          {x : Value} (d : Kind)
          → FiniteBetween 8_001_000_000 8_000_000_001_000_000 x
          → FiniteBetween 8_001_000_000 8_000_000_001_000_000 (offer l v d x)
      by_kind assign i = i
      by_kind {x} increase i =
          cond_cases (FiniteBetween 8_001_000_000 8_000_000_001_000_000) (reaches x (pos 1)) unbounded (l.val v)
          (λ t. record { if_finite = tt }) (λ t. old)
      by_kind decrease i = old

module _
    {k : Task} {l : Layer} {s : State} (ok : TaskOk paper normal k)
    (small : SmallLayer k.vars l) (start : SmallState k.vars s) (v : ℕ) (h : v < k.vars) where
  -- a finite value of the next layer, before it is checked: far below 2^62 in size
  pub next_between : FiniteBetween 8_001_000_000 8_000_000_001_000_000 ((next k.moves l).val v)
  unfolding next
  next_between =
      raised_cases l v (FiniteBetween 8_001_000_000 8_000_000_001_000_000) k.moves
      (finite_wider (omega arith) (omega arith) (small.values v h))
      (λ b lt u. offered_between small start v (get_or k.moves b []) h (move_ok ok b lt))

  -- its size
  pub next_size : {z : ℤ} → (next k.moves l).val v ≡ finite z → nat_abs z < 2 ^ 62
  next_size {z} e =
      let size = finite_size 8_000_000_001_000_000 (omega arith) (omega arith) next_between e in
      omega arith
