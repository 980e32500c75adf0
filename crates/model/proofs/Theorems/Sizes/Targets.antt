-- Sizes of targets: what is wanted for a sum, a condition or a block in a layer with small values is a target from
-- −9,000,000,000,000,000 up to a bound that is at least 1,000,000,000,000 and 8,000,000,000 more than the number that the sum has
-- to reach (document 01, "Plan"). Assumes nothing.
use Rattle.std.specs.Prelude.{ℕ, suc, ◌+◌, ◌≤◌, ◌<◌, ◌≡◌, ℤ, pos, neg_ℤ, nat_abs, ◌-ℤ◌, ◌*ℤ◌, length}
use Rattle.std.proofs.Common.{arith, sym, subst}
use mathlib.Core.List.{List, [], ◌∷◌}
use Rattle.integer.specs.Linear.{≤_trans, size_below, abs_neg}
use Rattle.integer.specs.Ceiling.{ceiling}
use Rattle.integer.proofs.Ceiling.{ceiling_le, ceiling_mono, ceiling_size}
use Rattle.model.specs.Limits.{paper}
use Rattle.model.specs.Task.{normal, Term, Item, need, add, delete, condition, effect, Block}
use Rattle.model.specs.Move.{State, sum}
use Rattle.model.specs.Layer.{finite, Layer}
use Rattle.model.specs.Plan.{least, Wants, no_wants, want_prop, want_value, low, want_finite, want_sum, want_item, want_block}
use Rattle.model.specs.Theorems.Reading.WellFormed.{All, TermOk, ItemOk, BlockOk}
use Rattle.model.specs.Theorems.Plans.Targets.{EachTarget}
use Rattle.model.proofs.Theorems.Plans.Targets.{each_map, no_wants_each, want_prop_each, want_value_each}
use Rattle.model.proofs.Theorems.Plans.Wanting.{want_finite_cases, want_sum_cases, want_sum_nil, positive_size}
use Rattle.model.specs.Theorems.Sizes.Bounds.{Between, FewTerms}
use Rattle.model.proofs.Theorems.Sizes.Bounds.{between_wider, between_size, between_diff, sum_few}
use Rattle.model.specs.Theorems.Sizes.States.{SmallState}
use Rattle.model.specs.Theorems.Sizes.Layers.{FiniteBetween, SmallLayer}
use Rattle.model.proofs.Theorems.Sizes.Layers.{layer_product_between, low_terms_between}
use Rattle.model.specs.Theorems.Sizes.Targets.{Remaining, SmallWants}

module _ {high : ℕ} where
  -- what that says of one target, and its size
  pub target_between :
      {w : Wants} {z : ℤ}
      → SmallWants high w
      → (v : ℕ)
      → w.target v ≡ least z
      → Between 9_000_000_000_000_000 high z
  target_between h v e = subst (EachTarget (Between 9_000_000_000_000_000 high)) e (h.each.targets v)

  pub target_size :
      {w : Wants} {z : ℤ}
      → high ≤ 9_000_000_000_000_000
      → SmallWants high w
      → (v : ℕ)
      → w.target v ≡ least z
      → nat_abs z ≤ 9_000_000_000_000_000
  target_size most small v e = between_size 9_000_000_000_000_000 (omega arith) most (target_between small v e)

  -- a higher bound does as well
  pub wants_wider : {more : ℕ} {w : Wants} → high ≤ more → SmallWants high w → SmallWants more w
  wants_wider h small = record { each = each_map (λ p t. t) (λ v z. between_wider (omega arith) h) small.each }

  -- nothing wanted, one proposition more, one target more
  pub no_wants_small : SmallWants high no_wants
  no_wants_small = record { each = no_wants_each }

  pub want_prop_small : {w : Wants} (p : ℕ) → SmallWants high w → SmallWants high (want_prop w p)
  want_prop_small p small = record { each = want_prop_each small.each tt }

  pub want_value_small :
      {w : Wants} {z : ℤ} (v : ℕ)
      → Between 9_000_000_000_000_000 high z
      → SmallWants high w
      → SmallWants high (want_value w v z)
  want_value_small v h small = record { each = want_value_each small.each h }

-- ---- the numbers on the way to the targets of a sum
-- a quotient rounded up is no larger than what is divided
pub ceiling_between : {a b : ℕ} (z : ℤ) (d : ℕ) → 0 < d → Between a b z → Between a b (ceiling z d)
ceiling_between {a} {b} z d p h =
    record {
      from =
          ≤_trans
          (size_below (ceiling (neg_ℤ (pos a)) d) a (omega (arith, ceiling_size (neg_ℤ (pos a)) d p, abs_neg (pos a))))
          (ceiling_mono d p h.from);
      to = ceiling_le z d b p h.to;
    }

-- before the first term, and after one term more
pub remaining_start : {b : ℕ} {c : ℤ} → Between 2_000_000 b c → Remaining b 0 c
remaining_start h = record { between = between_wider (omega arith) (omega arith) h }

pub remaining_step :
    {vars b i : ℕ} {t : Term} {c z : ℤ}
    → TermOk paper normal vars t
    → Between 1_000_000 1_000_000_000_000 z
    → Remaining b i c
    → Remaining b (suc i) (c -ℤ (t.weight *ℤ z))
remaining_step ok near h =
    record { between = between_wider (omega arith) (omega arith) (between_diff h.between (layer_product_between ok near)) }

-- its size, for a table's sum
pub remaining_size : {b i : ℕ} {c : ℤ} → b ≤ 40_000_000_000_000 → i ≤ 8 → Remaining b i c → nat_abs c ≤ 9_000_000_000_000_000
remaining_size most few h = between_size 9_000_000_000_000_000 (omega arith) (omega arith) h.between

module _ {vars : ℕ} {l : Layer} {s : State} (small : SmallLayer vars l) (start : SmallState vars s) where
  -- "(c − the rest)": what is left to reach less the terms behind
  module _
      {b i : ℕ} {c : ℤ} (ts : List Term) (ok : All (TermOk paper normal vars) ts)
      (few : i + length ts ≤ 8) (left : Remaining b i c) where
    pub rest_between : Between 8_000_000_002_000_000 (b + 8_000_000_000) (c -ℤ sum (low l s) ts)
    rest_between = between_wider (omega arith) (omega arith) (between_diff left.between (low_terms_between small start ts ok))

    -- its size
    pub rest_size : b ≤ 40_000_000_000_000 → nat_abs (c -ℤ sum (low l s) ts) ≤ 9_000_000_000_000_000
    rest_size most = between_size 9_000_000_000_000_000 (omega arith) (omega arith) rest_between

  -- ---- wants of a sum, a condition, a block

  module _ {high : ℕ} (large : 1_000_000_000_000 ≤ high) where
    -- a finite layer value may be wanted
    finite_target : {z : ℤ} → Between 1_000_000 1_000_000_000_000 z → Between 9_000_000_000_000_000 high z
    finite_target h = between_wider (omega arith) large h

    -- the finite value of a term's variable
    near : (t : Term) → TermOk paper normal vars t → {z : ℤ} → l.val t.var ≡ finite z → Between 1_000_000 1_000_000_000_000 z
    near t ok e = (subst (FiniteBetween 1_000_000 1_000_000_000_000) e (small.values t.var ok.var)).if_finite

    -- "each finite variable's target is its layer value"
    pub want_finite_small :
        (w : Wants) (ts : List Term)
        → All (TermOk paper normal vars) ts
        → SmallWants high w
        → SmallWants high (want_finite l w ts)
    unfolding want_finite
    want_finite_small w [] ok h = h
    want_finite_small w (t ∷ ts) ok h =
        want_finite_cases l w t ts (SmallWants high)
        (λ z e. want_finite_small (want_value w t.var z) ts ok.1 (want_value_small t.var (finite_target (near t ok.0 e)) h))
        (λ e. want_finite_small w ts ok.1 h)

    -- "To want "sum ≥ c" in layer t", from the term behind i others on
    pub want_rest_small :
        (w : Wants) (ts : List Term) (c : ℤ) (b i : ℕ)
        → All (TermOk paper normal vars) ts
        → i + length ts ≤ 8
        → b + 8_000_000_000 ≤ high
        → Remaining b i c
        → SmallWants high w
        → SmallWants high (want_sum l s w ts c)
    want_rest_small w [] c b i ok few upper left h = subst (SmallWants high) (sym (want_sum_nil l s w c)) h
    want_rest_small w (t ∷ ts) c b i ok few upper left h =
        want_sum_cases l w t ts (SmallWants high) s c
        (λ z e.
        want_rest_small (want_value w t.var z) ts (c -ℤ (t.weight *ℤ z)) b (suc i) ok.1 (omega arith) upper
        (remaining_step ok.0 (near t ok.0 e) left)
        (want_value_small t.var (finite_target (near t ok.0 e)) h))
        (λ e.
        want_value_small t.var
        (between_wider (omega arith) upper
        (ceiling_between (c -ℤ sum (low l s) ts) (nat_abs t.weight) (positive_size t.weight ok.0.weight.0).1
        (rest_between ts ok.1 (omega arith) left)))
        (want_finite_small w ts ok.1 h))

    -- "To want "sum ≥ c" in layer t", for c from −2,000,000 to b
    pub want_sum_small :
        {w : Wants} {ts : List Term} {c : ℤ} {b : ℕ}
        → FewTerms normal vars ts
        → Between 2_000_000 b c
        → b + 8_000_000_000 ≤ high
        → SmallWants high w
        → SmallWants high (want_sum l s w ts c)
    want_sum_small {w} {ts} {c} {b} few near upper h =
        want_rest_small w ts c b 0 few.terms (omega (arith, few.few)) upper (remaining_start near) h

    -- one item of a block
    pub want_item_small :
        (props : ℕ) {w : Wants} (i : Item)
        → ItemOk paper normal props vars i
        → SmallWants high w
        → SmallWants high (want_item l s w i)
    unfolding want_item paper
    want_item_small props (need p) ok h = want_prop_small p h
    want_item_small props (condition c) ok h =
        let constant : Between 1_000_000 1_000_001 c.bound = record { from = ok.bound.0; to = ok.bound.1 } in
        want_sum_small (sum_few ok.sum) (between_wider {d = 1_000_001} (omega arith) (omega arith) constant) (omega arith) h
    want_item_small props (add p) ok h = h
    want_item_small props (delete p) ok h = h
    want_item_small props (effect e) ok h = h

    want_items_small :
        (props : ℕ) {w : Wants} (b : Block)
        → All (ItemOk paper normal props vars) b
        → SmallWants high w
        → SmallWants high (want_block l s w b)
    unfolding want_block
    want_items_small props {w = w} [] ok h = h
    want_items_small props {w = w} (i ∷ b) ok h =
        want_items_small props {w = want_item l s w i} b ok.1 (want_item_small props i ok.0 h)

    -- the conditions of a move or of the goal
    pub want_block_small :
        {props : ℕ} {w : Wants} {b : Block}
        → BlockOk paper normal props vars b
        → SmallWants high w
        → SmallWants high (want_block l s w b)
    want_block_small {props} {w} {b} ok h = want_items_small props b ok.items h
