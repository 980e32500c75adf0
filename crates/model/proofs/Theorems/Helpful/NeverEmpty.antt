-- With an answer layer above 0 the set of helpful moves is not empty (document 02, request 6): in no layer u ≥ 1 of the way down are
-- all wants met by layer u − 1 already, so layer 0 lacks something wanted in layer 1, and a move usable in it gives that.
-- Assumes nothing.
use Prim.Native.Nat.{ℕ, zero, suc, ◌+◌, ◌<◌}
use native.Mathlib.Omega.{arith}
use Rattle.std.specs.Prelude.{◌≡◌, ◌↔◌, ◌&&◌, ℤ, ◌-ℤ◌}
use Rattle.std.proofs.Math.Path.{refl, subst}
use Rattle.std.proofs.Common.{sym, T_not}
use Rattle.std.proofs.Math.Bool.{not}
use Rattle.std.proofs.Math.Option.{Option}
use Rattle.std.proofs.Math.Dec.{T, not_T}
use Rattle.std.proofs.Math.ListN.{length}
use Rattle.integer.specs.Linear.{larger, larger_left, larger_right, ≤_trans}
use Rattle.model.specs.Limits.{Limits}
use Rattle.model.specs.Lists.{fold_below}
use Rattle.model.specs.Task.{normal, Effect, Block, Task, effect_on}
use Rattle.model.specs.Move.{State, move_at}
use Rattle.model.specs.Layer.{Value, finite, unbounded, Layer, reaches, usable, layer_value, offered, gained, raised, next, layer_of, layer, layer_at, meets_goal, Reached}
use Rattle.model.specs.Plan.{Target, free, least, Wants, no_wants, want_sum, want_block, Descent, adder, take_adder, demand, achieves, achiever, take_effect, take_achiever, carried, carried_down, take_prop, take_target, take_value, descend, wants_at, helpful, bit, helpful_moves}
use Rattle.model.specs.Theorems.Reading.WellFormed.{EffectOk, ItemOk, BlockOk, TaskOk}
use Rattle.model.proofs.Theorems.Laws.Booleans.{true_t, false_not, T-stable, and_left, and_right, and_both, or_right}
use Rattle.model.proofs.Theorems.Laws.Searching.{below_suc, fold_below_induction}
use Rattle.model.proofs.Theorems.Laws.Sets.{bit_zero}
use Rattle.model.specs.Theorems.Layers.Order.{◌⊑◌, ◌≼◌}
use Rattle.model.proofs.Theorems.Layers.Order.{finite-⊑, ⊑-unbounded, ⊑_refl, ⊑-reaches, reaches_mono, layer_value_mono, layer_value_finite, usable_mono}
use Rattle.model.proofs.Theorems.Layers.NextLayer.{effect_on_cases, raised_offer, gained_at, next_above, move_ok, layer_mono}
use Rattle.model.specs.Theorems.Plans.Targets.{EachTarget, Sat, Above}
use Rattle.model.proofs.Theorems.Plans.Targets.{no_wants_each, sat_mono, low_reaches}
use Rattle.model.proofs.Theorems.Plans.Wanting.{want_sum_old}
use Rattle.model.specs.Theorems.Plans.Conditions.{Had}
use Rattle.model.proofs.Theorems.Plans.Conditions.{want_block_had, want_block_old, want_block_enough, want_effect_enough}
use Rattle.model.proofs.Theorems.Plans.Supporting.{gained_new, adder_found, achieves_offered, achiever_found}
use Rattle.model.proofs.Theorems.Plans.Descending.{elim_cases, in_range_lem, Raised, prop_met, target_met, descend_step}
use Rattle.model.specs.Theorems.Plans.Records.{descent_at}
use Rattle.model.proofs.Theorems.Plans.Records.{wants_at_answer, wants_at_down}
use Rattle.model.proofs.Theorems.Helpful.Supporting.{adder_helpful, achiever_helpful, in_set}

-- ---- a state below a layer that meets what is wanted

-- a number below the value, as high as the state's and the target
at_target : ℤ → Target → ℤ
at_target a free = a
at_target a (least z) = larger a z

pick : Value → ℤ → Target → ℤ
pick (finite z) a t = z
pick unbounded a t = at_target a t

module _ (s : State) (x : Layer) (w : Wants) where
  state_below : State
  state_below = record { has = x.has; val = λ v. pick (x.val v) (s.val v) (w.target v) }

  pick_above : (y : Value) (a : ℤ) (t : Target) → finite a ⊑ y → finite a ⊑ finite (pick y a t)
  unfolding pick at_target
  pick_above (finite z) a t h = h
  pick_above unbounded a free h = ⊑_refl (finite a)
  pick_above unbounded a (least z) h = finite-⊑ (larger_left a z)

  pick_below : (y : Value) (a : ℤ) (t : Target) → finite (pick y a t) ⊑ y
  unfolding pick
  pick_below (finite z) a t = ⊑_refl (finite z)
  pick_below unbounded a t = ⊑-unbounded (finite (pick unbounded a t))

  pick_reaches : (y : Value) (a : ℤ) (t : Target) → EachTarget (λ (z : ℤ). T (reaches y z)) t → EachTarget (λ (z : ℤ). T (reaches (finite (pick y a t)) z)) t
  unfolding pick at_target
  pick_reaches (finite y) a free h = tt
  pick_reaches (finite y) a (least z) h = h
  pick_reaches unbounded a free h = tt
  pick_reaches unbounded a (least z) h = ⊑-reaches (finite-⊑ (larger_right a z))

  below_above : layer_of s ≼ x → Above s state_below
  unfolding state_below layer_of
  below_above h =
      record { order = record { has = h.has; val = λ v. pick_above (x.val v) (s.val v) (w.target v) (h.val v) } }

  below_layer : layer_of state_below ≼ x
  unfolding state_below layer_of
  below_layer = record { has = λ p t. t; val = λ v. pick_below (x.val v) (s.val v) (w.target v) }

  below_sat : Sat w x → Sat w (layer_of state_below)
  unfolding state_below layer_of
  below_sat h =
      record { each = record { props = h.each.props; targets = λ v. pick_reaches (x.val v) (s.val v) (w.target v) (h.each.targets v) } }

-- ---- what is wanted for a block or a value, met by a layer, makes the block usable and gives the value there
module _ (L : Limits) (props vars : ℕ) (l : Layer) (s : State) {x : Layer} (above : layer_of s ≼ x) where
  block_usable : (u : Wants) (b : Block) → BlockOk L normal props vars b → T (usable l b) → Sat (want_block l s u b) x → T (usable x b)
  block_usable u b ok enabled sat =
      let w = want_block l s u b in
      usable_mono ok (below_layer s x w)
      (want_block_enough L props vars l s u b ok.items (below_above s x w above) enabled (below_sat s x w sat))

  value_there :
      (u : Wants) (e : Effect) (d : ℤ) → EffectOk L normal vars e → T (reaches (layer_value l e) d)
      → Sat (want_sum l s u e.terms (d -ℤ e.base)) x
      → T (reaches (layer_value x e) d)
  value_there u e d ok had sat =
      let w = want_sum l s u e.terms (d -ℤ e.base) in
      let y = state_below s x w in
      let enough = ≤_trans (low_reaches (layer_value l e) d had)
      (want_effect_enough L props vars l s u e d ok (below_above s x w above) (below_sat s x w sat)) in
      reaches_mono d (layer_value_mono ok (below_layer s x w))
      (⊑-reaches (subst (λ (q : Value). finite d ⊑ q) (sym (layer_value_finite y e)) (finite-⊑ enough)))

-- ---- one step down, met by a layer x: the wants above are met by the next layer of x
module _ {L : Limits} {k : Task} (ok : TaskOk L normal k) (l : Layer) (s : State) {w : Wants} (had-next : Had k.props k.vars (next k.moves l) w) (x : Layer) (above : layer_of s ≼ x) where
  abbrev after : Layer
  after = next k.moves x

  -- what a step of the fold leaves wanted
  abbrev Gives : Descent → Descent → Type 0 → Type 0
  Gives d e Q = Sat e.wants x → Sat d.wants x × Q

  -- wanted above, and lacking in l
  abbrev lacking : ℕ → Type 0
  lacking p = T (w.props p && not (l.has p))

  prop_gives : (p : ℕ) (d : Descent) → Gives d (take_prop k l s w p d) (lacking p → T (after.has p))
  unfolding take_prop take_adder next move_at
  prop_gives p d =
      elim_cases goal (w.props p && not (l.has p)) (take_adder k l s d (adder k l p)) d
      (λ t. adder_found k l (λ o. goal (take_adder k l s d o)) p (gained_it t)
      (λ b lt enabled new sat.
      let can = block_usable L k.props k.vars l s above d.wants (move_at k b) (move_ok ok b lt) enabled sat in
      (want_block_old l s d.wants (move_at k b) sat, λ u. or_right (x.has p) (gained x p k.moves) (gained_at x p k.moves b lt can new))))
      (λ had sat. (sat, λ t. absurd (had t)))
    where
      goal : Descent → Type 0
      goal e = Gives d e (lacking p → T (after.has p))

      gained_it : lacking p → T (gained l p k.moves)
      gained_it t = gained_new k l p (had-next.each.props p (and_left (w.props p) (not (l.has p)) t)).1 (T_not (l.has p) (and_right (w.props p) (not (l.has p)) t))

  value_gives : (v : ℕ) (d : Descent) → Gives d (take_value k l s w v d) (Raised ok l s v after (w.target v))
  unfolding take_value take_target take_achiever take_effect next move_at achieves
  value_gives v d = go (w.target v) (had-next.each.targets v)
    where
      by_effect :
          (z : ℤ) (b : ℕ) → b < length k.moves → T (usable l (move_at k b)) → T (achieves l z (effect_on v (move_at k b)))
          → Gives d (take_effect k l s d v z b (effect_on v (move_at k b))) (T (reaches (after.val v) z))
      by_effect z b lt enabled achieved =
          effect_on_cases
          (λ o. effect_on v (move_at k b) ≡ o → T (achieves l z o) → Gives d (take_effect k l s d v z b o) (T (reaches (after.val v) z)))
          (ItemOk L normal k.props k.vars) v (move_at k b) (move_ok ok b lt).items
          (λ same t. absurd t)
          (λ e at-v e-ok same t sat.
          let u = want_block l s d.wants (move_at k b) in
          let block = want_sum_old l s u e.terms (demand e.kind z -ℤ e.base) sat in
          let can = block_usable L k.props k.vars l s above d.wants (move_at k b) (move_ok ok b lt) enabled block in
          let there = value_there L k.props k.vars l s above u e (demand e.kind z) e-ok t sat in
          let offer-it : T (reaches (offered x v (effect_on v (move_at k b))) z) =
          subst (λ (o : Option Effect). T (reaches (offered x v o) z)) (sym same) (achieves_offered k x v z e e-ok there) in
          (want_block_old l s d.wants (move_at k b) block, reaches_mono z (raised_offer x v k.moves b lt can) offer-it))
          refl achieved

      go :
          (t : Target)
          → EachTarget (λ q. (v < k.vars) × T (reaches (raised l v k.moves) q)) t
          → Gives d (take_target k l s v t d) (Raised ok l s v after t)
      go free had = λ sat. (sat, tt)
      go (least z) had =
          elim_cases goal (reaches (l.val v) z) d (take_achiever k l s d v z (achiever k l v z))
          (λ reached sat. (sat, λ low. absurd (low reached)))
          (λ low. achiever_found k l (λ o. goal (take_achiever k l s d v z o)) v z low had.1
          (λ b lt enabled achieved sat. let given = by_effect z b lt enabled achieved sat in (given.0, λ u. given.1)))
        where
          goal : Descent → Type 0
          goal e = Gives d e ((T (reaches (l.val v) z) → ⊥) → T (reaches (after.val v) z))

  -- a step for each number below n
  all_give :
      (f : ℕ → Descent → Descent) (Q : ℕ → Type 0) → ((i : ℕ) (d : Descent) → Gives d (f i d) (Q i))
      → (n : ℕ) (d : Descent) → Gives d (fold_below f n d) ((i : ℕ) → i < n → Q i)
  all_give f Q step n d =
      fold_below_induction f (λ i e. Gives d e ((j : ℕ) → j < i → Q j)) n d
      (λ sat. (sat, λ j h. absurd (omega arith)))
      (λ i e h old sat.
      let new = step i e sat in
      let before = old new.0 in
      (before.0, λ j lt. below_suc j i lt (before.1 j) (λ same. subst Q (sym same) new.1)))

  step_met : Sat (descend k l s w).wants x → Sat w after
  unfolding descend next carried
  step_met sat =
      let start = carried_down l w in
      let middle = fold_below (take_prop k l s w) k.props start in
      let values = all_give (take_value k l s w) (λ v. Raised ok l s v after (w.target v)) value_gives k.vars middle sat in
      let props = all_give (take_prop k l s w) (λ p. lacking p → T (after.has p)) prop_gives k.props start values.0 in
      let kept : Sat (carried l w) after = sat_mono props.0 (next_above k.moves x) in
      record {
        each = record {
          props = λ p t. prop_met ok l s w kept p t (props.1 p (had-next.each.props p t).0);
          targets = λ v.
              in_range_lem v k.vars (raised l v k.moves) (after.val v) (w.target v) (had-next.each.targets v)
              (λ lt. target_met ok l s after v (w.target v) (kept.each.targets v) (values.1 v lt));
        };
      }

-- ---- on the way down from the answer layer
module _ {L : Limits} {k : Task} (ok : TaskOk L normal k) (s : State) where
  start_below : (t : ℕ) → layer_of s ≼ layer_at k s t
  unfolding layer_at layer
  start_below t = layer_mono k.moves s {t = 0} {u = t} (omega arith)

  next_is : (u : ℕ) → layer_at k s (suc u) ≡ next k.moves (layer_at k s u)
  unfolding layer_at layer
  next_is u = refl

  module _ (m : ℕ) (a : Reached k s (suc m)) where
    goal_met : T (usable (layer_at k s (suc m)) k.goal)
    unfolding meets_goal
    goal_met = true_t a.met

    -- what is wanted in layer u can be had there
    wants_had : (n u : ℕ) → u + n ≡ suc m → Had k.props k.vars (layer_at k s u) (wants_at k s (suc m) u)
    unfolding descent_at
    wants_had zero u e =
        let same : suc m ≡ u = omega arith in
        subst (λ (i : ℕ). Had k.props k.vars (layer_at k s i) (wants_at k s (suc m) i)) same
        (rw (wants_at_answer k s (suc m))
        (want_block_had L k.props k.vars (layer_at k s (suc m)) s no_wants k.goal ok.goal.items goal_met (record { each = no_wants_each })))
    wants_had (suc n) u e =
        let lower : u < suc m = omega arith in
        let had = subst (λ (l : Layer). Had k.props k.vars l (wants_at k s (suc m) (suc u))) (next_is u) (wants_had n (suc u) (omega arith)) in
        rw (wants_at_down k s (suc m) lower) (descend_step ok (layer_at k s u) s had).good.had

    -- and not all of it in the layer before
    never_met : (n u : ℕ) → suc u + n ≡ suc m → Sat (wants_at k s (suc m) (suc u)) (layer_at k s u) → ⊥
    unfolding descent_at meets_goal
    never_met zero u e sat =
        let same : u ≡ m = omega arith in
        let there : Sat (want_block (layer_at k s (suc m)) s no_wants k.goal) (layer_at k s m) =
        subst (λ (w : Wants). Sat w (layer_at k s m)) (wants_at_answer k s (suc m))
        (subst (λ (i : ℕ). Sat (wants_at k s (suc m) (suc i)) (layer_at k s i)) same sat) in
        false_not (a.passed.unmet m (omega arith))
        (block_usable L k.props k.vars (layer_at k s (suc m)) s (start_below m) no_wants k.goal ok.goal goal_met there)
    never_met (suc n) u e sat =
        let lower : suc u < suc m = omega arith in
        let had = subst (λ (l : Layer). Had k.props k.vars l (wants_at k s (suc m) (suc (suc u)))) (next_is (suc u))
        (wants_had n (suc (suc u)) (omega arith)) in
        let below = subst (λ (w : Wants). Sat w (layer_at k s u)) (wants_at_down k s (suc m) lower) sat in
        let up = step_met ok (layer_at k s (suc u)) s had (layer_at k s u) (start_below u) below in
        never_met n (suc u) (omega arith) (subst (λ (l : Layer). Sat (wants_at k s (suc m) (suc (suc u))) l) (sym (next_is u)) up)

    -- so the set has a move
    pub helpful_some : helpful_moves k s (suc m) ≡ 0 → ⊥
    unfolding next
    helpful_some empty = never_met m 0 (omega arith) (record { each = record { props = props; targets = λ v. target v (w.target v) refl (had.each.targets v) } })
      where
        w : Wants
        w = wants_at k s (suc m) 1

        l : Layer
        l = layer_at k s 0

        had : Had k.props k.vars (next k.moves l) w
        had = subst (λ (x : Layer). Had k.props k.vars x w) (next_is 0) (wants_had m 1 (omega arith))

        nobody : (b : ℕ) → b < length k.moves → T (helpful l w (move_at k b)) → ⊥
        nobody b lt h = false_not (bit_zero b) (subst (λ (x : ℕ). T (bit x b)) empty (in_set k s m b lt h))

        props : (p : ℕ) → T (w.props p) → T (l.has p)
        props p wanted =
            T-stable (l.has p) (λ lacks.
            adder_found k l (λ o. ⊥) p (gained_new k l p (had.each.props p wanted).1 lacks)
            (λ b lt enabled new. nobody b lt (adder_helpful l w p (move_at k b) (and_both (w.props p) (not (l.has p)) wanted (not_T (l.has p) lacks)) enabled new)))

        target :
            (v : ℕ) (t : Target) → w.target v ≡ t
            → EachTarget (λ (z : ℤ). (v < k.vars) × T (reaches (raised l v k.moves) z)) t
            → EachTarget (λ (z : ℤ). T (reaches (l.val v) z)) t
        target v free e h = tt
        target v (least z) e h =
            T-stable (reaches (l.val v) z) (λ low.
            achiever_found k l (λ o. ⊥) v z low h.1
            (λ b lt enabled achieved. nobody b lt (achiever_helpful l w v z (move_at k b) e low enabled achieved)))

-- With an answer layer above 0 the set is not empty; with answer layer 0 it is.
pub helpful_empty : {L : Limits} {k : Task} (ok : TaskOk L normal k) (s : State) (m : ℕ) → Reached k s m → (helpful_moves k s m ≡ 0) ↔ (m ≡ 0)
unfolding helpful_moves
helpful_empty ok s zero a = (λ e. refl, λ e. refl)
helpful_empty ok s (suc m) a = (λ e. absurd (helpful_some ok s m a e), λ e. absurd (omega arith))
