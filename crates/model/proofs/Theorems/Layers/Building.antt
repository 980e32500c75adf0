-- How building layers in a memory ends: with room and no value past the limit it answers the outcome of the search, and whatever
-- it answers is that outcome; and building unrolled, layer by layer, in document 01's order. Assumes nothing.
use Rattle.std.specs.Prelude.{ℕ, zero, suc, ◌+◌, ◌*◌, ◌≤◌, ◌<◌, ◌≡◌, refl, ◌↔◌, Bool, true, false, ltb, length}
use Rattle.std.proofs.Common.{sym, ap₂, ◌∙◌, subst, mul-le-mul_left, lt_of_not-le}
use Rattle.std.proofs.Math.Path.{ap}
use Rattle.std.proofs.Math.Bool.{◌||◌, true≢false}
use Rattle.std.proofs.Math.Option.{Option, none, some}
use Rattle.std.proofs.Math.Nat.{le_of_suc-le-suc}
use native.Mathlib.Omega.{arith}
use Rattle.std.proofs.Math.Dec.{ltb→lt}
use Rattle.model.specs.Limits.{Limits}
use Rattle.model.specs.Lists.{first_from}
use Rattle.model.specs.Task.{normal, Task}
use Rattle.model.specs.Move.{State}
use Rattle.model.specs.Layer.{meets_goal, EqualNext, Passed, Outcome, reached, exhausted, reported, settled, bound, outcome}
use Rattle.model.specs.Memory.{room, wrong15, wrong14, refuses, Built, answered, stopped, stop_number, stop_at, build}
use Rattle.model.proofs.Theorems.Laws.Booleans.{true_t, or_cases, false_not}
use Rattle.model.proofs.Theorems.Laws.Searching.{below_suc, first_from_cases}
use Rattle.model.specs.Theorems.Reading.WellFormed.{TaskOk}
use Rattle.model.proofs.Theorems.Layers.Settled.{settled_equal}
use Rattle.model.specs.Theorems.Layers.Answer.{Answered}
use Rattle.model.proofs.Theorems.Layers.Answer.{outcome_cases, outcome_unique, passed_none, passed_next, passed_bound, unsettled_unequal}
use Rattle.model.proofs.Theorems.Layers.Entries.{first_found, first_missing}
use Rattle.model.specs.Theorems.Layers.Building.{BuildsFrom, Stored, answer, goes_on_lem, no_plan, too_large, too_short}

-- a later layer needs at least as much room
pub room_mono : (k : Task) {t u : ℕ} → t ≤ u → room k t ≤ room k u
unfolding room
room_mono k {t} {u} h =
    let g : t + 1 ≤ u + 1 = omega arith in
    let m : k.vars * (t + 1) ≤ k.vars * (u + 1) = mul-le-mul_left k.vars g in
    omega arith

stop_outcome : (L : Limits) (k : Task) (s : State) (o : Outcome) (f : Option ℕ) → stop_at L k s f (outcome k s) ≡ answered o → o ≡ outcome k s
unfolding stop_at
stop_outcome L k s o none e = cc
stop_outcome L k s o (some t) e = cc

module _ (L : Limits) (k : Task) (s : State) (size : ℕ) where
  -- "Room means .. P + A + N × (reported layers + 1) numbers of layer memory": then no layer is refused
  pub build_answers :
      ((t : ℕ) → t ≤ reported (outcome k s) → wrong15 L k s t ≡ false)
      → room k (reported (outcome k s)) ≤ size
      → build L k s size ≡ answered (outcome k s)
  unfolding build stop_at wrong14
  build_answers small fits =
      first_from_cases (refuses L k s size) (λ (o : Option ℕ). stop_at L k s o (outcome k s) ≡ answered (outcome k s)) 0
      (suc (reported (outcome k s)))
      (λ t low high bad before.
      let within : t ≤ reported (outcome k s) = omega arith in
      or_cases (wrong15 L k s t) (ltb size (room k t)) bad
      (λ large. absurd (false_not (small t within) large))
      (λ short.
      let more : size < room k t = ltb→lt size (room k t) short in
      let less : room k t ≤ room k (reported (outcome k s)) = room_mono k within in
      absurd (omega arith)))
      (λ never. refl)

  -- an answer of building is the outcome of the search
  pub built_outcome : (o : Outcome) → build L k s size ≡ answered o → o ≡ outcome k s
  unfolding build
  built_outcome o e = stop_outcome L k s o (first_from (refuses L k s size) 0 (suc (reported (outcome k s)))) e

module _ {L : Limits} {k : Task} (ok : TaskOk L normal k) (s : State) (size : ℕ) where
  -- the layers below t are stored
  abbrev StoredBelow : ℕ → Type 0
  StoredBelow t = (u : ℕ) → u < t → refuses L k s size u ≡ false

  stored_below : {t : ℕ} → StoredBelow t → Stored L k s size t → StoredBelow (suc t)
  stored_below {t} before here u h = below_suc u t h (before u) (λ e. ap (refuses L k s size) e ∙ ap₂ ◌||◌ here.small here.fits)

  -- the layers passed are reported
  passed_reported : {t : ℕ} → Passed k s t → t ≤ reported (outcome k s)
  unfolding reported
  passed_reported {t} p =
      outcome_cases ok s (λ o. t ≤ reported o)
      (λ m a. le_of_suc-le-suc (lt_of_not-le (λ h. true≢false (sym a.met ∙ p.unmet m h))))
      (λ m a. le_of_suc-le-suc (lt_of_not-le (λ h. p.unequal m h a.equal)))

  by_outcome : (o : Outcome) → Answered k s o → StoredBelow (suc (reported o)) → build L k s size ≡ answered o
  unfolding build stop_at
  by_outcome o a before =
      ap (λ (x : Outcome). stop_at L k s (first_from (refuses L k s size) 0 (suc (reported x))) x) (outcome_unique ok s o a)
      ∙ ap (λ (f : Option ℕ). stop_at L k s f o) (first_missing (refuses L k s size) (suc (reported o)) (λ u h bad. false_not (before u h) bad))

  by_refusal : {t : ℕ} → Passed k s t → StoredBelow t → refuses L k s size t ≡ true → build L k s size ≡ stopped (stop_number (wrong15 L k s t)) t
  unfolding build stop_at
  by_refusal {t} p before bad =
      ap (λ (f : Option ℕ). stop_at L k s f (outcome k s))
      (first_found (refuses L k s size) (suc (reported (outcome k s))) t (omega (arith, passed_reported p)) (true_t bad) (λ u h x. false_not (before u h) x))

  built_from : {t : ℕ} {b : Built} → Passed k s t → StoredBelow t → BuildsFrom L k s size t b → build L k s size ≡ b
  unfolding stop_number reported
  built_from {t} p before (too_large large) =
      by_refusal p before (ap (λ (x : Bool). x || wrong14 k size t) large) ∙ ap (λ (x : Bool). stopped (stop_number x) t) large
  built_from {t} p before (too_short small short) =
      by_refusal p before (ap₂ ◌||◌ small short) ∙ ap (λ (x : Bool). stopped (stop_number x) t) small
  built_from {t} p before (answer here met) = by_outcome (reached t) (record { passed = p; met = met }) (stored_below before here)
  built_from {t} p before (no_plan here unmet equal) =
      by_outcome (exhausted t) (record { passed = p; unmet = unmet; equal = equal }) (stored_below before here)
  built_from {t} p before (goes_on_lem here unmet unequal rest) =
      built_from (passed_next p unmet unequal) (stored_below before here) rest

  abbrev End : ℕ → Type 0
  End t = (b : Built) × BuildsFrom L k s size t b

  -- the end, where layer t is stored and the next one is new
  abbrev Later : ℕ → Type 0
  Later t = meets_goal k s t ≡ false → (EqualNext k s t → ⊥) → End (suc t)

  -- only so many layers can be passed, so building ends
  ends : (n t : ℕ) → bound (length k.moves) k.vars < t + n → Passed k s t → End t
  ends zero t h p = absurd (omega (arith, passed_bound ok s p))
  ends (suc n) t h p =
      at_15 (wrong15 L k s t) refl (λ unmet unequal. ends n (suc t) (omega arith) (passed_next p unmet unequal))
    where
      at_next : Stored L k s size t → meets_goal k s t ≡ false → (same : Bool) → settled k s t ≡ same → Later t → End t
      at_next here unmet true e later = (answered (exhausted t), no_plan here unmet ((settled_equal ok s t).0 e))
      at_next here unmet false e later =
          let unequal = unsettled_unequal ok s t e in
          let rest = later unmet unequal in
          (rest.0, goes_on_lem here unmet unequal rest.1)

      at_goal : Stored L k s size t → (met : Bool) → meets_goal k s t ≡ met → Later t → End t
      at_goal here true e later = (answered (reached t), answer here e)
      at_goal here false e later = at_next here e (settled k s t) refl later

      at_14 : wrong15 L k s t ≡ false → (short : Bool) → wrong14 k size t ≡ short → Later t → End t
      at_14 small true e later = (stopped 14 t, too_short small e)
      at_14 small false e later = at_goal (record { small = small; fits = e }) (meets_goal k s t) refl later

      at_15 : (large : Bool) → wrong15 L k s t ≡ large → Later t → End t
      at_15 true e later = (stopped 15 t, too_large e)
      at_15 false e later = at_14 e (wrong14 k size t) refl later

  -- building ends with b exactly if it does so layer by layer, from layer 0 on
  pub build_unrolled : (b : Built) → (build L k s size ≡ b) ↔ BuildsFrom L k s size 0 b
  build_unrolled b = (
    λ e. subst (BuildsFrom L k s size 0) (sym (unrolled some_end.1) ∙ e) some_end.1,
    λ r. unrolled r,
  )
    where
      unrolled : {c : Built} → BuildsFrom L k s size 0 c → build L k s size ≡ c
      unrolled r = built_from passed_none (λ u h. absurd (omega arith)) r

      some_end : (c : Built) × BuildsFrom L k s size 0 c
      some_end = ends (suc (bound (length k.moves) k.vars)) 0 (omega arith) passed_none
