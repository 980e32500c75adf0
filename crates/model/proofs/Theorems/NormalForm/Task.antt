-- The normal form of a task that meets every check of a written table meets every check of a normal one.
-- Assumes nothing.
use Rattle.std.specs.Prelude.{ℕ, ◌*◌, ◌≤◌, ◌<◌, ◌≡◌, refl, List, [], ◌∷◌, map, ℤ, nat_abs, ◌+ℤ◌, ◌-ℤ◌}
use Rattle.std.proofs.Common.{arith, subst}
use Rattle.std.proofs.Math.IntN.{pos, neg_ℤ}
use Rattle.std.proofs.Math.ListN.{length-map}
use Rattle.integer.specs.Linear.{zlin, +_comm, neg_up, neg_dn, nat_abs_split, abs_neg, size_below, size_above}
use Rattle.model.specs.Limits.{Limits}
use Rattle.model.specs.Task.{written, normal, Term, kept, Comparison, at_least, above, at_most, below, equal, Kind, assign, increase, decrease, Item, need, add, delete, condition, effect, Block, Task}
use Rattle.model.specs.NormalForm.{negated, signed_term, signed_sum, least, normal_condition, mirrored, normal_effect, normal_item, normal_block, normal_task}
use Rattle.model.specs.Theorems.Reading.WellFormed.{All, Rising, WeightOk, TermOk, SumOk, BoundOk, KindOk, ConditionOk, ItemOk, BlockOk, GoalItem, TaskOk}
use Rattle.model.proofs.Theorems.Laws.Searching.{All-map}
use Rattle.model.proofs.Theorems.Reading.Circles.{edges_within}
use Rattle.model.proofs.Theorems.Reading.Kept.{kept_length, kept_rising, kept_weighs}
use Rattle.model.proofs.Theorems.NormalForm.Names.{normal_once}
use Rattle.model.proofs.Theorems.NormalForm.Circle.{normal_no_circle}
use Rattle.model.specs.Theorems.NormalForm.SignedSums.{negative}
use Rattle.model.proofs.Theorems.NormalForm.SignedSums.{signed_term_cases, signed_var, negated_map}
use Rattle.model.proofs.Theorems.NormalForm.Blocks.{All-of-map, All-normal}

-- ---- sums

-- terms that keep the order of their variables stay rising
rising_of_map :
    (f : Term → Term)
    → ((t u : Term) → t.var < u.var → (f t).var < (f u).var)
    → (ts : List Term)
    → Rising ts
    → Rising (map f ts)
rising_of_map f h [] r = tt
rising_of_map f h (t ∷ ts) r =
    (All-of-map (λ (u : Term). (f t).var < u.var) f ts (h t) r.0, rising_of_map f h ts r.1)

module _ (L : Limits) (n : ℕ) where
  -- "Normal: weights 1..1000", of a term that is kept
  signed_weight : (t : Term) → WeightOk L written t.weight → 0 < nat_abs t.weight → WeightOk L normal (signed_term t).weight
  signed_weight t ok weighs =
      signed_term_cases (λ (u : Term). WeightOk L normal u.weight) t
      (λ plus. (omega zlin, ok))
      (λ minus. (
        omega (zlin, nat_abs_split t.weight, neg_up t.weight, neg_dn t.weight),
        omega (arith, abs_neg t.weight),
      ))

  -- "A sum has 0 to 8 terms, variables strictly rising."
  signed_sum_ok : (ts : List Term) → SumOk L written n ts → SumOk L normal (2 * n) (signed_sum ts)
  unfolding signed_sum
  signed_sum_ok ts ok =
      record {
        terms =
            All-of-map (TermOk L normal (2 * n)) signed_term (kept ts)
            (λ t h. record { var = omega (arith, signed_var t, h.0.var); weight = signed_weight t h.0.weight h.1 })
            (kept_weighs (TermOk L written n) ts ok.terms);
        few = omega (arith, length-map (kept ts) signed_term, kept_length ts, ok.few);
        rising =
            rising_of_map signed_term (λ t u h. omega (arith, signed_var t, signed_var u)) (kept ts) (kept_rising ts ok.rising);
      }

  negated_sum_ok : (ts : List Term) → SumOk L written n ts → SumOk L written n (negated ts)
  negated_sum_ok ts ok =
      subst (SumOk L written n) (negated_map ts)
      (record {
        terms =
            All-of-map (TermOk L written n) negative ts
            (λ t h. record { var = h.var; weight = rw (abs_neg t.weight) h.weight }) ok.terms;
        few = omega (arith, length-map ts negative, ok.few);
        rising = rising_of_map negative (λ t u h. h) ts ok.rising;
      })

  -- ---- items

  negated_size : (c : ℤ) → nat_abs c ≤ L.constant → nat_abs (neg_ℤ c) ≤ L.constant
  negated_size c b = rw (abs_neg c) b

  -- "condition constants −1,000,000..1,000,001": a constant stays, or it goes up by one
  bound_same : (c : ℤ) → nat_abs c ≤ L.constant → BoundOk L normal c
  bound_same c b = (size_below c L.constant b, omega (zlin, size_above c L.constant b))

  bound_next : (c d : ℤ) → nat_abs c ≤ L.constant → d ≡ c +ℤ pos 1 → BoundOk L normal d
  bound_next c d b e = (omega (zlin, size_below c L.constant b), omega (zlin, size_above c L.constant b))

  least_ok :
      (ts : List Term) (c : ℤ)
      → SumOk L written n ts
      → BoundOk L normal c
      → ConditionOk L normal (2 * n) (record { terms = signed_sum ts; comparison = at_least; bound = c })
  least_ok ts c ok b = record { sum = signed_sum_ok ts ok; comparison = tt; bound = b }

  at_most_ok :
      (ts : List Term) (c : ℤ)
      → SumOk L written n ts
      → nat_abs c ≤ L.constant
      → ConditionOk L normal (2 * n) (record { terms = signed_sum (negated ts); comparison = at_least; bound = neg_ℤ c })
  at_most_ok ts c ok b = least_ok (negated ts) (neg_ℤ c) (negated_sum_ok ts ok) (bound_same (neg_ℤ c) (negated_size c b))

  module _ (props : ℕ) where
    abbrev Items : Block → Type 0
    Items = All (ItemOk L normal props (2 * n))

    condition_ok :
        (o : Comparison) (ts : List Term) (c : ℤ)
        → SumOk L written n ts
        → nat_abs c ≤ L.constant
        → Items (normal_condition o ts c)
    unfolding normal_condition least
    condition_ok at_least ts c ok b = (least_ok ts c ok (bound_same c b), tt)
    condition_ok above ts c ok b = (least_ok ts (c +ℤ pos 1) ok (bound_next c (c +ℤ pos 1) b refl), tt)
    condition_ok at_most ts c ok b = (at_most_ok ts c ok b, tt)
    condition_ok below ts c ok b =
        let next : pos 1 -ℤ c ≡ neg_ℤ c +ℤ pos 1 = +_comm (pos 1) (neg_ℤ c) in
        let within = bound_next (neg_ℤ c) (pos 1 -ℤ c) (negated_size c b) next in
        (least_ok (negated ts) (pos 1 -ℤ c) (negated_sum_ok ts ok) within, tt)
    condition_ok equal ts c ok b = (least_ok ts c ok (bound_same c b), (at_most_ok ts c ok b, tt))

    mirrored_ok :
        (k : Kind) (v : ℕ) (ts : List Term) (c : ℤ)
        → KindOk normal k
        → v < n
        → SumOk L written n ts
        → nat_abs c ≤ L.constant
        → Items (mirrored k v ts c)
    unfolding mirrored
    mirrored_ok k v ts c kind h ok b =
        let negated-ok = signed_sum_ok (negated ts) (negated_sum_ok ts ok) in (
          record { var = omega arith; kind = kind; sum = signed_sum_ok ts ok; base = b },
          (record { var = omega arith; kind = kind; sum = negated-ok; base = negated_size c b }, tt),
        )

    effect_ok :
        (k : Kind) (v : ℕ) (ts : List Term) (c : ℤ)
        → v < n
        → SumOk L written n ts
        → nat_abs c ≤ L.constant
        → Items (normal_effect k v ts c)
    unfolding normal_effect
    effect_ok assign v ts c h ok b = mirrored_ok assign v ts c tt h ok b
    effect_ok increase v ts c h ok b = mirrored_ok increase v ts c tt h ok b
    effect_ok decrease v ts c h ok b =
        mirrored_ok increase v (negated ts) (neg_ℤ c) tt h (negated_sum_ok ts ok) (negated_size c b)

    item_ok : (i : Item) → ItemOk L written props n i → Items (normal_item i)
    unfolding normal_item
    item_ok (need p) ok = (ok, tt)
    item_ok (add p) ok = (ok, tt)
    item_ok (delete p) ok = (ok, tt)
    item_ok (condition c) ok = condition_ok c.comparison c.terms c.bound ok.sum ok.bound
    item_ok (effect e) ok = effect_ok e.kind e.var e.terms e.base ok.var ok.sum ok.base

    block_ok : (b : Block) → BlockOk L written props n b → BlockOk L normal props (2 * n) (normal_block b)
    block_ok b ok =
        record {
          items = All-normal (ItemOk L normal props (2 * n)) b (All-map b item_ok ok.items);
          once = normal_once b ok.once;
        }

-- ---- the goal
condition_goal : (o : Comparison) (ts : List Term) (c : ℤ) → All GoalItem (normal_condition o ts c)
unfolding normal_condition least
condition_goal at_least ts c = (tt, tt)
condition_goal above ts c = (tt, tt)
condition_goal at_most ts c = (tt, tt)
condition_goal below ts c = (tt, tt)
condition_goal equal ts c = (tt, (tt, tt))

goal_item : (i : Item) → GoalItem i → All GoalItem (normal_item i)
unfolding normal_item
goal_item (need p) g = (tt, tt)
goal_item (add p) g = absurd g
goal_item (delete p) g = absurd g
goal_item (condition c) g = condition_goal c.comparison c.terms c.bound
goal_item (effect e) g = absurd g

-- The task of an accepted written table has a normal form that meets every check of a normal table: counts, ranges, rising
-- terms, comparisons and kinds, named once, a goal of conditions only, no circle.
pub normal_ok : (L : Limits) (k : Task) → TaskOk L written k → TaskOk L normal (normal_task k)
unfolding normal_task
normal_ok L k ok =
    record {
      props = ok.props;
      vars = (omega (arith, ok.vars), omega arith);
      moves = omega (arith, length-map k.moves normal_block, ok.moves);
      blocks =
          All-of-map (BlockOk L normal k.props (2 * k.vars)) normal_block k.moves
          (block_ok L k.vars k.props) ok.blocks;
      goal = block_ok L k.vars k.props k.goal ok.goal;
      goal_items = All-normal GoalItem k.goal (All-map k.goal goal_item ok.goal_items);
      no_circle = normal_no_circle k (edges_within L written k ok.blocks) ok.no_circle;
    }
