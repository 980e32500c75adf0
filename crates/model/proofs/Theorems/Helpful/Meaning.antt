-- The set of helpful moves in plain words (document 02, request 6): with an answer layer above 0, bit b is set exactly if b is a move of the
-- table, usable in layer 0, that adds a proposition wanted at layer 1 and first had there, or has an effect that reaches a target of layer 1
-- which layer 0 does not: a := whose value in layer 0 is at least the target, or a += whose value there is above 0. With answer layer 0 no bit
-- is set. Assumes nothing.
use Prim.Native.Nat.{ℕ, zero, suc, ◌≤◌, ◌<◌}
use Rattle.std.proofs.Common.{arith, sym, ◌∙◌, nltb→le}
use Rattle.std.specs.Prelude.{◌≡◌, ◌↔◌, ◌⊎◌, not, ltb, ℤ, pos, length}
use Rattle.std.proofs.Math.Path.{refl, subst}
use Rattle.std.proofs.Math.Logic.{inl, inr}
use Rattle.std.proofs.Math.Option.{Option, some}
use Rattle.std.proofs.Math.Dec.{T, not_T, T_not, eqb_refl, ltb→lt}
use Rattle.model.specs.Limits.{Limits}
use Rattle.model.specs.Lists.{In, any}
use Rattle.model.specs.Task.{normal, Kind, assign, increase, decrease, Effect, Item, need, add, delete, condition, effect, Task, is_add, adds, effect_on}
use Rattle.model.specs.Move.{State, applicable, move_at}
use Rattle.model.specs.Layer.{Layer, reaches, usable, layer_value, gained, next, layer, layer_at}
use Rattle.model.specs.Plan.{Target, free, least, Wants, demand, achieves, wants_at, reaches_new, supports, helpful, bit, helpful_moves}
use Rattle.model.specs.Theorems.Reading.WellFormed.{KindOk, ItemOk, TaskOk}
use Rattle.model.proofs.Theorems.Laws.Booleans.{true_t, T_true, false_not, T-cases, and_left, and_right, and_both, or_right}
use Rattle.model.proofs.Theorems.Laws.Listed.{All-in, any_in, any_who}
use Rattle.model.proofs.Theorems.Laws.Sets.{bit_zero, set_bit, set_beyond}
use Rattle.model.proofs.Theorems.Layers.Order.{usable_state}
use Rattle.model.proofs.Theorems.Layers.NextLayer.{gained_at, move_ok}
use Rattle.model.proofs.Theorems.Helpful.Supporting.{effect_found, adder_helpful, achiever_helpful, in_set}

-- "by the test that Plan uses to take a move (value in layer 0 at least the target for :=, above 0 for +=)"
abbrev pub PassesTest : Layer → Effect → ℤ → Type 0
PassesTest l e z =
    ((e.kind ≡ assign) × T (reaches (layer_value l e) z))
    ⊎ ((e.kind ≡ increase) × T (reaches (layer_value l e) (pos 1)))

module _ (k : Task) (s : State) (m b : ℕ) where
  -- "adds a proposition first had and wanted at layer 1"
  pub record AddsWanted : Type 0 where
    pub prop : ℕ
    pub added : T (adds prop (move_at k b))
    pub wanted : T ((wants_at k s m 1).props prop)
    pub not_before : T ((layer_at k s 0).has prop) → ⊥
    pub had : T ((layer_at k s 1).has prop)

  -- "whose effect reaches, by the test .., a target there that layer 0 did not"
  pub record ReachesWanted : Type 0 where
    pub var : ℕ
    pub it : Effect
    pub has : effect_on var (move_at k b) ≡ some it
    pub target : ℤ
    pub wanted : (wants_at k s m 1).target var ≡ least target
    pub not_before : T (reaches ((layer_at k s 0).val var) target) → ⊥
    pub passes : PassesTest (layer_at k s 0) it target

  pub record Helpful : Type 0 where
    -- "With answer layer 0 .. it is empty."
    pub answer : 1 ≤ m
    pub move : b < length k.moves
    -- "each move usable in layer 0"
    pub enabled : T (usable (layer_at k s 0) (move_at k b))
    pub supports : AddsWanted ⊎ ReachesWanted

-- Plan's test, of a normal table's effects
test_passed : (l : Layer) (e : Effect) (z : ℤ) (d : Kind) → e.kind ≡ d → KindOk normal d → T (reaches (layer_value l e) (demand d z)) → PassesTest l e z
unfolding demand
test_passed l e z assign is d-ok t = inl (is, t)
test_passed l e z increase is d-ok t = inr (is, t)
test_passed l e z decrease is d-ok t = absurd d-ok

passed_test : (l : Layer) (e : Effect) (z : ℤ) → PassesTest l e z → T (achieves l z (some e))
unfolding achieves demand
passed_test l e z (inl v) = subst (λ (d : Kind). T (reaches (layer_value l e) (demand d z))) (sym v.0) v.1
passed_test l e z (inr v) = subst (λ (d : Kind). T (reaches (layer_value l e) (demand d z))) (sym v.0) v.1

module _ {L : Limits} {k : Task} (ok : TaskOk L normal k) (s : State) (m b : ℕ) where
  abbrev l : Layer
  l = layer_at k s 0

  abbrev w : Wants
  w = wants_at k s (suc m) 1

  module _ (lt : b < length k.moves) (enabled : T (usable l (move_at k b))) where
    -- what a usable move adds, the next layer has
    added_had : (p : ℕ) → T (adds p (move_at k b)) → T ((layer_at k s 1).has p)
    unfolding layer_at layer next move_at
    added_had p t = or_right (l.has p) (gained l p k.moves) (gained_at l p k.moves b lt enabled t)

    by_target :
        (e : Effect) → In (effect e) (move_at k b) → KindOk normal e.kind → (x : Target) → w.target e.var ≡ x → T (reaches_new l x e)
        → ReachesWanted k s (suc m) b
    unfolding reaches_new achieves move_at
    by_target e i kind free is t = absurd t
    by_target e i kind (least z) is t =
        record {
          var = e.var;
          it = e;
          has = effect_found e (move_at k b) (move_ok ok b lt).once i;
          target = z;
          wanted = is;
          not_before = T_not (reaches (l.val e.var) z) (and_left (not (reaches (l.val e.var) z)) (achieves l z (some e)) t);
          passes = test_passed l e z e.kind refl kind (and_right (not (reaches (l.val e.var) z)) (achieves l z (some e)) t);
        }

    by_item :
        (i : Item) → In i (move_at k b) → ItemOk L normal k.props k.vars i → T (supports l w i)
        → AddsWanted k s (suc m) b ⊎ ReachesWanted k s (suc m) b
    unfolding supports adds is_add
    by_item (need p) i i-ok t = absurd t
    by_item (add p) i i-ok t =
        let added = any_in (is_add p) (add p) (move_at k b) i (eqb_refl p) in
        inl (record {
          prop = p;
          added = added;
          wanted = and_left (w.props p) (not (l.has p)) t;
          not_before = T_not (l.has p) (and_right (w.props p) (not (l.has p)) t);
          had = added_had p added;
        })
    by_item (delete p) i i-ok t = absurd t
    by_item (condition c) i i-ok t = absurd t
    by_item (effect e) i i-ok t = inr (by_target e i i-ok.kind (w.target e.var) refl t)

  from_bit : T (bit (helpful_moves k s (suc m)) b) → Helpful k s (suc m) b
  unfolding helpful_moves helpful move_at
  from_bit t =
      T-cases (ltb b (length k.moves))
      (λ inside.
      let lt = ltb→lt b (length k.moves) inside in
      let h = true_t (sym (set_bit (helpful l w) k.moves b lt) ∙ T_true (bit (helpful_moves k s (suc m)) b) t) in
      let enabled = and_left (usable l (move_at k b)) (any (supports l w) (move_at k b)) h in
      record {
        answer = omega arith;
        move = lt;
        enabled = enabled;
        supports =
            any_who (supports l w) (move_at k b) (and_right (usable l (move_at k b)) (any (supports l w) (move_at k b)) h)
            (λ i in_b t. by_item lt enabled i in_b (All-in (ItemOk L normal k.props k.vars) (move_at k b) (move_ok ok b lt).items i in_b) t);
      })
      (λ outside. absurd (false_not (set_beyond (helpful l w) k.moves b (nltb→le b (length k.moves) (not_T (ltb b (length k.moves)) outside))) t))

  to_bit : Helpful k s (suc m) b → T (bit (helpful_moves k s (suc m)) b)
  to_bit h = in_set k s m b h.move (go h.supports)
    where
      go : AddsWanted k s (suc m) b ⊎ ReachesWanted k s (suc m) b → T (helpful l w (move_at k b))
      go (inl a) =
          adder_helpful l w a.prop (move_at k b) (and_both (w.props a.prop) (not (l.has a.prop)) a.wanted (not_T (l.has a.prop) a.not_before))
          h.enabled a.added
      go (inr r) =
          achiever_helpful l w r.var r.target (move_at k b) r.wanted r.not_before h.enabled
          (subst (λ (o : Option Effect). T (achieves l r.target o)) (sym r.has) (passed_test l r.it r.target r.passes))

module _ {L : Limits} {k : Task} (ok : TaskOk L normal k) (s : State) where
  -- bit b is set exactly if move b is helpful
  pub helpful_means : (m b : ℕ) → T (bit (helpful_moves k s m) b) ↔ Helpful k s m b
  unfolding helpful_moves
  helpful_means zero b = (λ t. absurd (false_not (bit_zero b) t), λ h. absurd (omega (arith, h.answer)))
  helpful_means (suc m) b = (from_bit ok s m b, to_bit ok s m b)

  -- a helpful move is one of the table's, and its conditions hold in the state
  pub helpful_applicable : (m b : ℕ) → T (bit (helpful_moves k s m) b) → (b < length k.moves) × T (applicable s (move_at k b))
  unfolding layer_at layer move_at
  helpful_applicable m b t =
      let h = (helpful_means m b).0 t in
      (h.move, subst T (usable_state s (move_ok ok b h.move)) h.enabled)
