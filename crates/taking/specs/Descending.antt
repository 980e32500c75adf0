-- "For any other, try the moves": one layer down, behind what is carried, proposition by proposition, then variable by variable.
-- Assumes nothing.
use Rattle.std.specs.Prelude.{ℕ, ◌+◌, ◌≤◌, ◌<◌, ◌≡◌, Bool, true, false, List, ℤ, pos, nat_abs, length, get_or, replicate}
use Rattle.std.proofs.Common.{arith, add-one, ◌∙◌, subst}
use Rattle.std.proofs.Math.Path.{sym}
use Rattle.std.proofs.lemmas.List.{length-replicate, get_or-replicate}
use Rattle.model.specs.Limits.{largest_value}
use Rattle.model.specs.Lists.{fold_below}
use Rattle.model.specs.Task.{Task}
use Rattle.model.specs.Move.{State}
use Rattle.model.specs.Layer.{Value, Layer, reaches}
use Rattle.model.specs.Memory.{encode}
use Rattle.model.specs.Plan.{least, Wants, low, Descent, carried, carried_down, take_prop, take_target, take_value}
use Rattle.block.specs.Sums.{Row, LayerRow}
use Rattle.targets.specs.declared.Targets.{Targets}
use Rattle.targets.specs.Encoding.{code, target_limit, SmallTarget, Encodes, is_free, free_yes, free_no}
use Rattle.achievers.specs.Search.{Searchable, Achievable}
use Rattle.taking.specs.Taking.{EncodesTaken, Takeable, AdderTaken, AchieverTaken}

-- what is carried, and no move counted
taken_carried :
    {k : Task} {t : Targets} (l : Layer) (w : Wants) → Encodes k.props k.vars t (carried l w) → length k.moves ≤ 64
    → EncodesTaken k t (replicate 64 0) (carried_down l w)
taken_carried l w e few =
    record {
      wants = e;
      few = few;
      long = length-replicate {A = ℕ} 64 0;
      count = λ b lt. get_or-replicate {A = ℕ} 64 b 0 0 (omega arith);
    }

-- some task, layer and state, and the wants of the layer above, stand so in the arguments
pub record Descendable (table marks : List ℕ) (used : List Bool) (row lows : List ℤ) (moves : ℕ) : Type 0 where
  pub search : Searchable table marks used moves
  pub start : State
  pub wants : Wants
  pub few : moves ≤ 64
  pub values : LayerRow search.task.vars row search.over.val
  pub low_values : Row search.task.vars lows (low search.over start)

module _ {table marks : List ℕ} {used : List Bool} {row lows : List ℤ} {moves : ℕ} (x : Descendable table marks used row lows moves) where
  abbrev pub takeable : {t : Targets} {counts : List ℕ} {d : Descent} → EncodesTaken x.search.task t counts d → Takeable table marks used row lows moves t counts
  takeable {t} {counts} {d} e =
      record { search = x.search; start = x.start; descent = d; values = x.values; low_values = x.low_values; encoded = e }

-- ---- propositions

-- the layer's propositions, those that are wanted above it, and what is carried, beside
pub record PropsTakeable (table marks : List ℕ) (has used : List Bool) (row lows : List ℤ) (moves props : ℕ) (wanted : List Bool) (t : Targets) : Type 0 where
  pub scene : Descendable table marks used row lows moves
  pub many : scene.search.task.props ≡ props
  pub long : props ≤ length has
  pub has_is : (p : ℕ) → p < props → get_or has p false ≡ scene.search.over.has p
  pub wanted_is : (p : ℕ) → p < props → get_or wanted p false ≡ scene.wants.props p
  pub kept : Encodes scene.search.task.props scene.search.task.vars t (carried scene.search.over scene.wants)

abbrev pub props_below : {table marks : List ℕ} {used : List Bool} {row lows : List ℤ} {moves : ℕ} → Descendable table marks used row lows moves → ℕ → Descent
props_below x n =
    fold_below (take_prop x.search.task x.search.over x.start x.wants) n (carried_down x.search.over x.wants)

pub record PropsTaken {table marks : List ℕ} {has used : List Bool} {row lows : List ℤ} {moves props : ℕ} {wanted : List Bool} {t₀ : Targets} (x : PropsTakeable table marks has used row lows moves props wanted t₀) (n : ℕ) (t : Targets) (counts : List ℕ) : Type 0 where
  pub is : EncodesTaken x.scene.search.task t counts (props_below x.scene n)

module _ {table marks : List ℕ} {has used : List Bool} {row lows : List ℤ} {moves props : ℕ} {wanted : List Bool} {t₀ : Targets} (x : PropsTakeable table marks has used row lows moves props wanted t₀) where
  pub props_start : {counts : List ℕ} → counts ≡ replicate 64 0 → PropsTaken x 0 t₀ counts
  unfolding fold_below
  props_start e = rw e (record { is = taken_carried x.scene.search.over x.scene.wants x.kept (omega (arith, x.scene.few, x.scene.search.many)) })

  pub props_end : {n : ℕ} {t : Targets} {counts : List ℕ} → n ≤ props → props ≤ n → PropsTaken x n t counts → PropsTaken x props t counts
  props_end {n} {t} {counts} h i d = let e : n ≡ props = omega arith in subst (λ (m : ℕ). PropsTaken x m t counts) e d

  pub prop_room : {p : ℕ} → p < props → p < 120
  prop_room h = omega (arith, x.kept.few_props, x.many)

  module _ {p : ℕ} {t : Targets} {counts : List ℕ} (h : p < props) (d : PropsTaken x p t counts) where
    pub prop_unwanted : get_or wanted p false ≡ false → PropsTaken x (p + 1) t counts
    unfolding fold_below take_prop
    prop_unwanted e = rw (add-one p) (record { is = rw (sym (x.wanted_is p h) ∙ e, take_prop) d.is })

    pub prop_had : get_or wanted p false ≡ true → get_or has p false ≡ true → PropsTaken x (p + 1) t counts
    unfolding fold_below take_prop
    prop_had e f = rw (add-one p) (record { is = rw (sym (x.wanted_is p h) ∙ e, take_prop, sym (x.has_is p h) ∙ f) d.is })

    pub prop_take : {r : Targets} {more : List ℕ} → get_or wanted p false ≡ true → get_or has p false ≡ false → AdderTaken (takeable x.scene d.is) p r more → PropsTaken x (p + 1) r more
    unfolding fold_below take_prop
    prop_take e f taken = rw (add-one p) (record { is = rw (sym (x.wanted_is p h) ∙ e, take_prop, sym (x.has_is p h) ∙ f) taken.is })

-- ---- variables

-- every target is small
pub record SmallTargets (w : Wants) : Type 0 where
  pub each : (v : ℕ) → SmallTarget (w.target v)

-- the state's values, the targets above, and what is taken for the propositions, beside
pub record ValuesTakeable (table marks : List ℕ) (used : List Bool) (row lows start : List ℤ) (moves vars : ℕ) (targets : List ℤ) (t : Targets) (counts : List ℕ) : Type 0 where
  pub scene : Descendable table marks used row lows moves
  pub many : scene.search.task.vars ≡ vars
  pub start_values : Row vars start scene.start.val
  pub small : SmallTargets scene.wants
  pub targets_are : (v : ℕ) → v < vars → get_or targets v (pos 0) ≡ code (scene.wants.target v)
  pub descent : Descent
  pub taken : EncodesTaken scene.search.task t counts descent

abbrev pub values_below : {table marks : List ℕ} {used : List Bool} {row lows : List ℤ} {moves : ℕ} → Descendable table marks used row lows moves → Descent → ℕ → Descent
values_below x d n = fold_below (take_value x.search.task x.search.over x.start x.wants) n d

pub record ValuesTaken {table marks : List ℕ} {used : List Bool} {row lows start : List ℤ} {moves vars : ℕ} {targets : List ℤ} {t₀ : Targets} {counts₀ : List ℕ} (x : ValuesTakeable table marks used row lows start moves vars targets t₀ counts₀) (n : ℕ) (t : Targets) (counts : List ℕ) : Type 0 where
  pub is : EncodesTaken x.scene.search.task t counts (values_below x.scene x.descent n)

module _ {table marks : List ℕ} {used : List Bool} {row lows start : List ℤ} {moves vars : ℕ} {targets : List ℤ} {t₀ : Targets} {counts₀ : List ℕ} (x : ValuesTakeable table marks used row lows start moves vars targets t₀ counts₀) where
  pub values_start : ValuesTaken x 0 t₀ counts₀
  unfolding fold_below
  values_start = record { is = x.taken }

  pub values_end : {n : ℕ} {t : Targets} {counts : List ℕ} → n ≤ vars → vars ≤ n → ValuesTaken x n t counts → ValuesTaken x vars t counts
  values_end {n} {t} {counts} h i d = let e : n ≡ vars = omega arith in subst (λ (m : ℕ). ValuesTaken x m t counts) e d

  abbrev pub achievable : Achievable table marks used row moves
  achievable = record { search = x.scene.search; values = x.scene.values }

  pub value_room : {v : ℕ} → v < vars → v < 32
  value_room h = omega (arith, x.taken.wants.few_vars, x.many)

  pub row_room : {v : ℕ} → v < vars → v < length row
  row_room h = omega (arith, x.scene.values.long, x.many)

  pub start_room : {v : ℕ} → v < vars → v < length start
  start_room h = omega (arith, x.start_values.long)

  module _ {v : ℕ} (h : v < vars) where
    target_is : get_or targets v (pos 0) ≡ code (x.scene.wants.target v)
    target_is = x.targets_are v h

    module _ (f : is_free (get_or targets v (pos 0)) ≡ false) where
      least_is : x.scene.wants.target v ≡ least (get_or targets v (pos 0))
      least_is = free_no (x.scene.wants.target v) target_is f

      pub target_size : nat_abs (get_or targets v (pos 0)) ≤ target_limit
      target_size = subst SmallTarget least_is (x.small.each v)

    pub value_is : {t : Bool} (z : ℤ) → ((w : Value) → get_or row v (pos 0) ≡ encode w → t ≡ reaches w z) → reaches (x.scene.search.over.val v) z ≡ t
    value_is z q = sym (q (x.scene.search.over.val v) (x.scene.values.each v (omega (arith, x.many))).is)

    pub old_is : get_or start v (pos 0) ≡ x.scene.start.val v
    old_is = x.start_values.same v h

    pub old_size : nat_abs (get_or start v (pos 0)) ≤ largest_value
    old_size = subst (λ (z : ℤ). nat_abs z ≤ largest_value) (sym old_is) (x.start_values.size v h)

    module _ {t : Targets} {counts : List ℕ} (d : ValuesTaken x v t counts) where
      pub value_free : is_free (get_or targets v (pos 0)) ≡ true → ValuesTaken x (v + 1) t counts
      unfolding fold_below take_value take_target
      value_free e = rw (add-one v) (record { is = rw (free_yes (x.scene.wants.target v) target_is (x.small.each v) e, take_target) d.is })

      module _ (f : is_free (get_or targets v (pos 0)) ≡ false) where
        pub value_had : reaches (x.scene.search.over.val v) (get_or targets v (pos 0)) ≡ true → ValuesTaken x (v + 1) t counts
        unfolding fold_below take_value take_target
        value_had e = rw (add-one v) (record { is = rw (least_is f, take_target, e) d.is })

        pub value_take :
            {r : Targets} {more : List ℕ} → reaches (x.scene.search.over.val v) (get_or targets v (pos 0)) ≡ false
            → AchieverTaken (takeable x.scene d.is) v (get_or targets v (pos 0)) r more
            → ValuesTaken x (v + 1) r more
        unfolding fold_below take_value take_target
        value_take e taken = rw (add-one v) (record { is = rw (least_is f, take_target, e) taken.is })
