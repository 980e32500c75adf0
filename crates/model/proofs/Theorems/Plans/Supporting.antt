-- The moves that support a want: one is always found, its runs reach the target, and their number is at least 1
-- (document 01, "Plan"). Assumes nothing.
use Prim.Native.Nat.{ℕ, zero, suc, ◌*◌, ◌≤◌, ◌<◌}
use Rattle.std.proofs.Common.{arith, inl, inr}
use Rattle.std.specs.Prelude.{◌≡◌, ◌&&◌, ◌⊎◌, ℤ, pos, ◌+ℤ◌, ◌-ℤ◌, ◌*ℤ◌, length, ◌≤ℤ◌, ◌<ℤ◌}
use Rattle.std.proofs.Math.Path.{refl}
use Rattle.std.proofs.Math.Bool.{Bool}
use Rattle.std.proofs.Math.Option.{Option, none, some}
use Rattle.std.proofs.Math.Dec.{T}
use Rattle.integer.specs.Linear.{zlin, up, diff, larger_left, larger_right, *-mono, ≤_trans, ≤-total}
use Rattle.integer.specs.Linear as Linear
use Rattle.integer.specs.Ceiling.{ceiling}
use Rattle.integer.proofs.Ceiling.{ceiling_enough, ceiling_pos}
use Rattle.model.specs.Limits.{Limits}
use Rattle.model.specs.Lists.{first_from}
use Rattle.model.specs.Task.{normal, Kind, assign, increase, decrease, Effect, Block, Task, adds, effect_on}
use Rattle.model.specs.Move.{State, value, changed, changed_by, relaxed, move_at}
use Rattle.model.specs.Layer.{Value, finite, unbounded, Layer, reaches, usable, layer_value, offer, offered, gained, raised, next, layer_of}
use Rattle.model.specs.Plan.{low_value, adder, achieves, achiever, demand, step_size, runs}
use Rattle.model.specs.Theorems.Reading.WellFormed.{KindOk, EffectOk}
use Rattle.model.proofs.Theorems.Laws.Booleans.{and_left, and_right, and_both, or_left, or_right, or_cases, cond_cases}
use Rattle.model.proofs.Theorems.Laws.Searching.{first_from_cases}
use Rattle.model.specs.Theorems.Layers.Order.{◌≼◌}
use Rattle.model.proofs.Theorems.Layers.Order.{finite-⊑, ⊑-unbounded, ⊑_trans, ⊑-reaches}
use Rattle.model.proofs.Theorems.Layers.NextLayer.{raised_cases, gained_cases}
use Rattle.model.proofs.Theorems.Layers.Relaxation.{value_mono, val_mono}
use Rattle.model.specs.Theorems.Plans.Targets.{Above}
use Rattle.model.proofs.Theorems.Plans.Targets.{above_refl, above_trans, low_reaches}
use Rattle.model.proofs.Theorems.Plans.Wanting.{positive_size}
use Rattle.model.specs.Theorems.Plans.Supporting.{repeated}

-- ---- a move is always found

module _ (k : Task) (l : Layer) where
  -- "try the moves usable in t−1 in rising order and take the first": if not all of them fail the test, one is found
  first_found :
      (P : Option ℕ → Type 0) (test : Block → Bool)
      → (((b : ℕ) → b < length k.moves → T (usable l (move_at k b)) → T (test (move_at k b)) → ⊥) → ⊥)
      → ((b : ℕ) → b < length k.moves → T (usable l (move_at k b)) → T (test (move_at k b)) → P (some b))
      → P (first_from (λ b. usable l (move_at k b) && test (move_at k b)) 0 (length k.moves))
  first_found P test not-all-fail found =
      first_from_cases (λ b. usable l (move_at k b) && test (move_at k b)) P 0 (length k.moves)
      (λ b low high t before. found b (omega arith) (left b t) (right b t))
      (λ nobody. absurd (not-all-fail (λ b lt u t. nobody b (omega arith) (omega arith) (both b u t))))
    where
      both : (b : ℕ) → T (usable l (move_at k b)) → T (test (move_at k b)) → T (usable l (move_at k b) && test (move_at k b))
      both b = and_both (usable l (move_at k b)) (test (move_at k b))

      left : (b : ℕ) → T (usable l (move_at k b) && test (move_at k b)) → T (usable l (move_at k b))
      left b = and_left (usable l (move_at k b)) (test (move_at k b))

      right : (b : ℕ) → T (usable l (move_at k b) && test (move_at k b)) → T (test (move_at k b))
      right b = and_right (usable l (move_at k b)) (test (move_at k b))

  -- a proposition that the next layer has and this one lacks is gained
  pub gained_new : (p : ℕ) → T ((next k.moves l).has p) → (T (l.has p) → ⊥) → T (gained l p k.moves)
  unfolding next
  gained_new p t lacks = or_cases (l.has p) (gained l p k.moves) t (λ has. absurd (lacks has)) (λ u. u)

  -- a proposition that the next layer gains is added by a move usable in this one
  pub adder_found :
      (P : Option ℕ → Type 0) (p : ℕ)
      → T (gained l p k.moves)
      → ((b : ℕ) → b < length k.moves → T (usable l (move_at k b)) → T (adds p (move_at k b)) → P (some b))
      → P (adder k l p)
  unfolding adder move_at
  adder_found P p t found = first_found P (adds p) (λ nobody. gained_cases l p k.moves t nobody) found

  -- what reaches a target that the variable does not is a := with such a value, or a += with a value above 0
  offered_achieves :
      (v : ℕ) (z : ℤ) (o : Option Effect)
      → (T (reaches (l.val v) z) → ⊥)
      → T (reaches (offered l v o) z)
      → T (achieves l z o)
  unfolding offered achieves offer demand
  offered_achieves v z none low t = low t
  offered_achieves v z (some e) low t = by_kind e.kind t
    where
      gains : Bool
      gains = reaches (layer_value l e) (pos 1)

      by_kind : (d : Kind) → T (reaches (offer l v d (layer_value l e)) z) → T (reaches (layer_value l e) (demand d z))
      by_kind assign t = t
      by_kind increase t =
          cond_cases (λ x. T (reaches x z) → T gains) gains unbounded (l.val v) (λ gain r. gain) (λ no_gain r. absurd (low r)) t
      by_kind decrease t = absurd (low t)

  -- and back: what passes Plan's test offers the target
  pub achieves_offered : {L : Limits} (v : ℕ) (z : ℤ) (e : Effect) → EffectOk L normal k.vars e → T (reaches (layer_value l e) (demand e.kind z)) → T (reaches (offered l v (some e)) z)
  unfolding offered offer demand
  achieves_offered v z e e-ok t = by_kind e.kind e-ok.kind t
    where
      by_kind : (d : Kind) → KindOk normal d → T (reaches (layer_value l e) (demand d z)) → T (reaches (offer l v d (layer_value l e)) z)
      by_kind assign d-ok r = r
      by_kind increase d-ok r =
          cond_cases (λ y. T (reaches y z)) (reaches (layer_value l e) (pos 1)) unbounded (l.val v)
          (λ gain. ⊑-reaches (⊑-unbounded (finite z))) (λ no_gain. absurd (no_gain r))
      by_kind decrease d-ok r = absurd d-ok

  -- a target that the next layer reaches and this one does not is achieved by a move usable in this one
  pub achiever_found :
      (P : Option ℕ → Type 0) (v : ℕ) (z : ℤ)
      → (T (reaches (l.val v) z) → ⊥)
      → T (reaches (raised l v k.moves) z)
      → ((b : ℕ) → b < length k.moves → T (usable l (move_at k b)) → T (achieves l z (effect_on v (move_at k b))) → P (some b))
      → P (achiever k l v z)
  unfolding achiever move_at
  achiever_found P v z low t found =
      first_found P (λ m. achieves l z (effect_on v m))
      (λ nobody. raised_cases l v (λ x. T (reaches x z) → ⊥) k.moves low
      (λ b lt u r. nobody b lt u (offered_achieves v z (effect_on v (move_at k b)) low r)) t)
      found

pub relaxed_above : (b : Block) (s : State) → Above s (relaxed b s)
unfolding relaxed layer_of
relaxed_above b s =
    record {
      order = record {
        has = λ p t. or_left (s.has p) (adds p b) t;
        val = λ v. finite-⊑ (larger_left (s.val v) (changed_by s v (effect_on v b)));
      };
    }

pub repeated_above : (n : ℕ) (b : Block) (s : State) → Above s (repeated n b s)
unfolding repeated
repeated_above zero b s = above_refl s
repeated_above (suc n) b s = above_trans (relaxed_above b s) (repeated_above n b (relaxed b s))

-- a larger count does no harm
pub repeated_more : (n m : ℕ) (b : Block) (s : State) → n ≤ m → Above (repeated n b s) (repeated m b s)
unfolding repeated
repeated_more zero m b s h = repeated_above m b s
repeated_more (suc n) zero b s h = absurd (omega arith)
repeated_more (suc n) (suc m) b s h = repeated_more n m b (relaxed b s) (omega arith)

pub relaxed_adds : (p : ℕ) (b : Block) (s : State) → T (adds p b) → T ((relaxed b s).has p)
unfolding relaxed
relaxed_adds p b s t = or_right (s.has p) (adds p b) t

-- ---- an effect's runs reach the target
up_above : (z : ℤ) → z ≤ℤ pos (up z)
up_above z = omega zlin

-- (T − a)/g rounded up runs, each of them giving g or more, lead from a to T
enough_runs : (z a : ℤ) (g : ℕ) → 0 < g → z ≤ℤ (a +ℤ pos (up (ceiling (z -ℤ a) g) * g))
enough_runs z a g h =
    let q = ceiling (z -ℤ a) g in
    let k : (pos g *ℤ q) ≤ℤ (pos g *ℤ pos (up q)) = *-mono g (up_above q) in
    omega (zlin, ceiling_enough (z -ℤ a) g h, diff z a, Linear.sum a (pos (up q * g)))

-- "d the value in t−1 if finite, else 1"
step_low : (x : Value) → T (reaches x (pos 1)) → (pos (step_size x) ≡ low_value x (pos 1)) × (0 < step_size x)
unfolding reaches step_size low_value
step_low (finite z) t = positive_size z (record { le = t })
step_low unbounded t = (refl, omega arith)

module _
    {L : Limits} {vars : ℕ} {e : Effect} (ok : EffectOk L normal vars e)
    (b : Block) (v : ℕ) (at-v : effect_on v b ≡ some e) where
  relaxed_gives : (y : State) {d : Kind} → e.kind ≡ d → changed d (y.val v) (value y e) ≤ℤ (relaxed b y).val v
  unfolding relaxed changed_by
  relaxed_gives y i = rw (at-v, ← i) (larger_right (y.val v) (changed_by y v (some e)))

  -- n runs of a += whose value is g or more add n · g or more
  times_lift :
      (n g : ℕ) (y : State)
      → e.kind ≡ increase
      → pos g ≤ℤ value y e
      → (y.val v +ℤ pos (n * g)) ≤ℤ (repeated n b y).val v
  unfolding repeated changed
  times_lift zero g y i h = omega (zlin, Linear.sum (y.val v) (pos (0 * g)))
  times_lift (suc n) g y i h =
      let x = relaxed b y in
      let once : (y.val v +ℤ value y e) ≤ℤ x.val v = relaxed_gives y i in
      let later = times_lift n g x i (≤_trans h (value_mono ok y x (relaxed_above b y).order)) in
      let sum = Linear.sum in
      omega (zlin, sum (y.val v) (value y e), sum (y.val v) (pos (suc n * g)), sum (x.val v) (pos (n * g)))

  -- a := run once gives T or more; a += run (T − state value of v)/d times gives the state's value and count × d, or more
  pub runs_reach :
      (x : Value) (z : ℤ) {s y : State}
      → T (reaches x (demand e.kind z))
      → Above s y
      → low_value x (demand e.kind z) ≤ℤ value y e
      → z ≤ℤ (repeated (runs e.kind z (s.val v) x) b y).val v
  unfolding demand runs changed repeated
  runs_reach x z {s} {y} t above h = by_kind e.kind refl ok.kind t h
    where
      by_kind :
          (d : Kind)
          → e.kind ≡ d
          → KindOk normal d
          → T (reaches x (demand d z))
          → low_value x (demand d z) ≤ℤ value y e
          → z ≤ℤ (repeated (runs d z (s.val v) x) b y).val v
      by_kind assign i d-ok t h = ≤_trans (≤_trans (low_reaches x z t) h) (relaxed_gives y i)
      by_kind increase i d-ok t h =
          let g = step_size x in
          let n = up (ceiling (z -ℤ s.val v) g) in
          let lift = times_lift n g y i (rw (step_low x t).0 h) in
          let way = enough_runs z (s.val v) g (step_low x t).1 in
          omega (zlin, val_mono s y above.order v, Linear.sum (y.val v) (pos (n * g)), Linear.sum (s.val v) (pos (n * g)))
      by_kind decrease i d-ok t h = absurd d-ok

-- ---- counts
-- "Count: 1; for += (T − state value of v)/d rounded up": at least 1, for the layer is no lower than the state and has not reached T
pub runs_positive :
    (l : Layer) (s : State) (v : ℕ) (z : ℤ) (e : Effect)
    → layer_of s ≼ l
    → (T (reaches (l.val v) z) → ⊥)
    → T (achieves l z (some e))
    → 1 ≤ runs e.kind z (s.val v) (layer_value l e)
unfolding achieves layer_of demand runs
runs_positive l s v z e above low t = by_kind e.kind t
  where
    x : Value
    x = layer_value l e

    behind : (z ≤ℤ s.val v) ⊎ (s.val v <ℤ z) → s.val v <ℤ z
    behind (inl h) = absurd (low (⊑-reaches (⊑_trans (finite-⊑ h) (above.val v))))
    behind (inr h) = h

    by_kind : (d : Kind) → T (reaches x (demand d z)) → 1 ≤ runs d z (s.val v) x
    by_kind assign t = omega arith
    by_kind increase t =
        let way : pos 0 <ℤ (z -ℤ s.val v) = omega (zlin, behind (≤-total z (s.val v)), diff z (s.val v)) in
        omega (zlin, ceiling_pos (z -ℤ s.val v) (step_size x) (step_low x t).1 way)
    by_kind decrease t = omega arith
