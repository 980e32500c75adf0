-- The relaxed task against its layers and against the real moves: no relaxed run passes a layer whose next layer is itself, so
-- "no plan" is right; and what real moves solve, relaxed moves solve. Assumes nothing.
use Rattle.std.specs.Prelude.{ℕ, ◌<◌, ◌≡◌, true, false, ◌&&◌, not, List, [], ◌∷◌, T, pos, ◌+ℤ◌, length, get_or, ◌≤ℤ◌}
use Rattle.std.proofs.Common.{arith, sym, subst}
use Rattle.std.specs.Int.Signed.{le_z, le_z_yes}
use Rattle.integer.specs.Linear.{zlin, sum, +-mono, larger_right, larger_mono}
use Rattle.model.specs.Limits.{Limits}
use Rattle.model.specs.Task.{normal, Kind, assign, increase, decrease, Effect, Block, Task, adds, deletes, effect_on}
use Rattle.model.specs.Move.{State, applicable, value, changed, changed_by, real, relaxed, move_at, Solves}
use Rattle.model.specs.Layer.{Value, finite, unbounded, Layer, reaches, highest, usable, layer_value, offer, offered, gained, next, layer_of, layer, layer_at, meets_goal, settled}
use Rattle.model.specs.Theorems.Reading.WellFormed.{KindOk, EffectOk, ItemOk, BlockOk, TaskOk}
use Rattle.model.proofs.Theorems.Laws.Booleans.{not-false, false_not, and_left, or_left, or_right, or_cases, cond_cases}
use Rattle.model.specs.Theorems.Layers.Order.{◌⊑◌, ◌≼◌}
use Rattle.model.proofs.Theorems.Layers.Order.{finite-⊑, ⊑-finite, ⊑_trans, ⊑-unbounded, ⊑-reaches, highest_least, ≼_trans, layer_value_mono, layer_value_finite, usable_mono, usable_state}
use Rattle.model.proofs.Theorems.Layers.NextLayer.{effect_on_cases, raised_old, raised_offer, gained_at, move_ok, layer_mono}
use Rattle.model.proofs.Theorems.Layers.Settled.{settled_closed}

-- ---- conditions and values of states, by their layers

module _ {L : Limits} {props vars : ℕ} {b : Block} (ok : BlockOk L normal props vars b) where
  -- what is applicable in a state is usable in every layer above it
  pub applicable_usable : (s : State) {l : Layer} → layer_of s ≼ l → T (applicable s b) → T (usable l b)
  applicable_usable s h t = usable_mono ok h (subst T (sym (usable_state s ok)) t)

  pub applicable_mono : (y x : State) → layer_of y ≼ layer_of x → T (applicable y b) → T (applicable x b)
  applicable_mono y x h t = subst T (usable_state x ok) (applicable_usable y h t)

module _ {L : Limits} {vars : ℕ} {e : Effect} (ok : EffectOk L normal vars e) where
  pub value_below : (s : State) {l : Layer} → layer_of s ≼ l → finite (value s e) ⊑ layer_value l e
  value_below s {l} h = subst (λ (x : Value). x ⊑ layer_value l e) (layer_value_finite s e) (layer_value_mono ok h)

  pub value_mono : (y x : State) → layer_of y ≼ layer_of x → value y e ≤ℤ value x e
  value_mono y x h = ⊑-finite (subst (λ (z : Value). finite (value y e) ⊑ z) (layer_value_finite x e) (value_below y h))

-- the value of a variable of a state, by its layer
pub val_mono : (y x : State) → layer_of y ≼ layer_of x → (v : ℕ) → y.val v ≤ℤ x.val v
unfolding layer_of
val_mono y x h v = ⊑-finite (h.val v)

-- ---- one relaxed move and one layer
-- what an effect gives in a state is below what it offers in a layer above the state
pub changed_offered :
    {L : Limits} {props vars : ℕ} {b : Block} (s : State) {l : Layer} (v : ℕ)
    → BlockOk L normal props vars b
    → layer_of s ≼ l
    → finite (changed_by s v (effect_on v b)) ⊑ offered l v (effect_on v b)
unfolding changed_by changed offered offer layer_of
changed_offered {L} {props} {vars} {b} s {l} v ok h =
    effect_on_cases (λ o. finite (changed_by s v o) ⊑ offered l v o) (ItemOk L normal props vars) v b ok.items (h.val v)
    (λ e at-v e-ok. by_kind e.kind e e-ok.kind e-ok)
  where
    falls :
        {e : Effect}
        → EffectOk L normal vars e
        → (T (reaches (layer_value l e) (pos 1)) → ⊥)
        → (s.val v +ℤ value s e) ≤ℤ s.val v
    falls {e} e-ok not-above =
        let positive = le_z (pos 1) (value s e) in
        let above : T positive → ⊥ = λ t. not-above (⊑-reaches (⊑_trans (finite-⊑ (le_z_yes t)) (value_below e-ok s h))) in
        let low : le_z (pos 1) (value s e) ≡ false = not-false positive above in
        omega (zlin, sum (s.val v) (value s e))

    by_kind :
        (d : Kind) (e : Effect)
        → KindOk normal d
        → EffectOk L normal vars e
        → finite (changed d (s.val v) (value s e)) ⊑ offer l v d (layer_value l e)
    by_kind assign e d-ok e-ok = value_below e-ok s h
    by_kind increase e d-ok e-ok =
        cond_cases (λ x. finite (s.val v +ℤ value s e) ⊑ x) (reaches (layer_value l e) (pos 1)) unbounded (l.val v)
        (λ t. ⊑-unbounded (finite (s.val v +ℤ value s e)))
        (λ not-above. ⊑_trans (finite-⊑ (falls e-ok not-above)) (h.val v))
    by_kind decrease e d-ok e-ok = absurd d-ok

-- a move applicable in a state below a layer leads, relaxed, to a state below the next layer
pub relaxed_below :
    {L : Limits} {props vars : ℕ} {l : Layer} (ms : List Block) (s : State) (b : ℕ)
    → b < length ms
    → BlockOk L normal props vars (get_or ms b [])
    → layer_of s ≼ l
    → T (applicable s (get_or ms b []))
    → layer_of (relaxed (get_or ms b []) s) ≼ next ms l
unfolding relaxed next layer_of highest
relaxed_below {l} ms s b lt ok h t =
    record {
      has = λ p r. or_cases (s.has p) (adds p (get_or ms b [])) r
          (λ old. or_left (l.has p) (gained l p ms) (h.has p old))
          (λ new. or_right (l.has p) (gained l p ms) (gained_at l p ms b lt (applicable_usable ok s h t) new));
      val = λ v. highest_least {x = finite (s.val v)} {y = finite (changed_by s v (effect_on v (get_or ms b [])))}
          (⊑_trans (h.val v) (raised_old l v ms))
          (⊑_trans (changed_offered s v ok h) (raised_offer l v ms b lt (applicable_usable ok s h t)));
    }

-- ---- lists of relaxed moves and a closed layer
-- a list of relaxed moves run from a state below a layer whose next layer is not above it stays below that layer
pub closed_dominates :
    {L : Limits} {k : Task} {l : Layer}
    → TaskOk L normal k
    → next k.moves l ≼ l
    → (s : State) (bs : List ℕ)
    → layer_of s ≼ l
    → Solves relaxed k s bs
    → T (usable l k.goal)
unfolding move_at
closed_dominates ok closed s [] h t = applicable_usable ok.goal s h t
closed_dominates {k} ok closed s (b ∷ bs) h (lt, t, rest) =
    closed_dominates ok closed (relaxed (move_at k b) s) bs
    (≼_trans (relaxed_below k.moves s b lt (move_ok ok b lt) h t) closed)
    rest

-- "A next layer equal to layer t .. the answer is "no plan"": then no list at all solves the relaxed task
pub no_plan :
    {L : Limits} {k : Task}
    → TaskOk L normal k
    → (s : State) (t : ℕ)
    → settled k s t ≡ true
    → meets_goal k s t ≡ false
    → (bs : List ℕ)
    → Solves relaxed k s bs
    → ⊥
unfolding meets_goal layer_at layer
no_plan {k} ok s t same unmet bs solves =
    false_not unmet
    (closed_dominates ok (settled_closed ok s t same) s bs (layer_mono k.moves s {t = 0} {u = t} (omega arith)) solves)

-- ---- real and relaxed moves
-- a real move, which may delete and lower, leads to a state below the relaxed move's
pub real_below_relaxed : (b : Block) (s : State) → layer_of (real b s) ≼ layer_of (relaxed b s)
unfolding real relaxed layer_of
real_below_relaxed b s =
    record {
      has = λ p t. or_cases (adds p b) (s.has p && not (deletes p b)) t
          (or_right (s.has p) (adds p b))
          (λ kept. or_left (s.has p) (adds p b) (and_left (s.has p) (not (deletes p b)) kept));
      val = λ v. finite-⊑ (larger_right (s.val v) (changed_by s v (effect_on v b)));
    }

module _ {L : Limits} {props vars : ℕ} {b : Block} (ok : BlockOk L normal props vars b)
    (y x : State) (h : layer_of y ≼ layer_of x) where
  -- with weights above 0 and no −=, what an effect gives rises with the state
  pub changed_by_mono : (v : ℕ) → changed_by y v (effect_on v b) ≤ℤ changed_by x v (effect_on v b)
  unfolding changed_by changed
  changed_by_mono v =
      effect_on_cases (λ o. changed_by y v o ≤ℤ changed_by x v o) (ItemOk L normal props vars) v b ok.items (val_mono y x h v)
      (λ e at-v e-ok. by_kind e.kind e e-ok.kind e-ok)
    where
      by_kind :
          (d : Kind) (e : Effect)
          → KindOk normal d
          → EffectOk L normal vars e
          → changed d (y.val v) (value y e) ≤ℤ changed d (x.val v) (value x e)
      by_kind assign e d-ok e-ok = value_mono e-ok y x h
      by_kind increase e d-ok e-ok = +-mono (val_mono y x h v) (value_mono e-ok y x h)
      by_kind decrease e d-ok e-ok = absurd d-ok

  pub relaxed_mono : layer_of (relaxed b y) ≼ layer_of (relaxed b x)
  unfolding relaxed layer_of
  relaxed_mono =
      record {
        has = λ p t. or_cases (y.has p) (adds p b) t
            (λ old. or_left (x.has p) (adds p b) (h.has p old))
            (or_right (x.has p) (adds p b));
        val = λ v. finite-⊑ (larger_mono (val_mono y x h v) (changed_by_mono v));
      }

-- a higher state is at least as good: what solves the relaxed task from a state solves it from every state above
pub solves_mono :
    {L : Limits} {k : Task}
    → TaskOk L normal k
    → (y x : State) (bs : List ℕ)
    → layer_of y ≼ layer_of x
    → Solves relaxed k y bs
    → Solves relaxed k x bs
unfolding move_at
solves_mono ok y x [] h t = applicable_mono ok.goal y x h t
solves_mono {k} ok y x (b ∷ bs) h (lt, t, rest) =
    let m = move_at k b in
    let m-ok = move_ok ok b lt in
    (lt, applicable_mono m-ok y x h t, solves_mono ok (relaxed m y) (relaxed m x) bs (relaxed_mono m-ok y x h) rest)

-- a list that solves a normal task by real moves solves it by relaxed moves
pub real_solves_relaxed :
    {L : Limits} {k : Task}
    → TaskOk L normal k
    → (s : State) (bs : List ℕ)
    → Solves real k s bs
    → Solves relaxed k s bs
real_solves_relaxed ok s [] t = t
real_solves_relaxed {k} ok s (b ∷ bs) (lt, t, rest) =
    let m = move_at k b in
    (lt, t, solves_mono ok (real m s) (relaxed m s) bs (real_below_relaxed m s) (real_solves_relaxed ok (real m s) bs rest))
