-- The plan's list solves the relaxed task (document 01, "Plan"). Assumes nothing.
use Prim.Native.Nat.{ℕ, zero, suc, ◌+◌, ◌≤◌, ◌<◌}
use Rattle.std.proofs.Common.{arith, sym, eqb→eq}
use Rattle.std.specs.Prelude.{◌≡◌, refl, eqb, ℤ, length, replicate}
use Rattle.std.proofs.Math.Path.{subst}
use Rattle.std.proofs.Math.Option.{Option, none, some}
use mathlib.Core.List.{List, [], ◌∷◌, ◌++◌, map, append-nil, append_assoc}
use Rattle.std.proofs.Math.Dec.{T}
use Rattle.model.specs.Limits.{Limits}
use Rattle.model.specs.Task.{Effect, effect_on, normal, Task}
use Rattle.model.specs.Move.{State, applicable, relaxed, move_at, Solves}
use Rattle.model.specs.Layer.{reaches, layer_value, Layer, layer_of, layer, layer_at, meets_goal}
use Rattle.model.specs.Plan.{achieves, runs, take_effect, take_achiever, Wants, no_wants, want_block, Descent, descend, Record, layer_records, records_from, records, move_and_count, plan_list}
use Rattle.model.specs.Theorems.Reading.WellFormed.{TaskOk}
use Rattle.model.proofs.Theorems.Laws.Searching.{below_suc}
use Rattle.model.proofs.Theorems.Layers.Order.{usable_state}
use Rattle.model.proofs.Theorems.Layers.NextLayer.{layer_mono, move_ok}
use Rattle.model.specs.Theorems.Plans.Targets.{Above, Sat}
use Rattle.model.proofs.Theorems.Plans.Targets.{above_refl, above_trans, no_wants_each, sat_mono}
use Rattle.model.specs.Theorems.Plans.Conditions.{Had}
use Rattle.model.proofs.Theorems.Plans.Conditions.{had_sat, want_block_had, want_block_enough}
use Rattle.model.specs.Theorems.Plans.Supporting.{repeated}
use Rattle.model.proofs.Theorems.Plans.Supporting.{runs_positive, relaxed_above, repeated_above}
use Rattle.model.specs.Theorems.Plans.Taking.{RanOne, Ran, nothing}
use Rattle.model.proofs.Theorems.Plans.Taking.{counted_new, Step}
use Rattle.model.proofs.Theorems.Plans.Descending.{elim_cases, descend_step}

-- ---- counts

module _ (k : Task) (s : State) (t : ℕ) where
  -- "Count: 1; for += (T − state value of v)/d rounded up": a move taken at layer t for a target that the layer has not reached
  -- has a count of 1 or more, so it has a record
  pub taken_count :
      (d : Descent) (v : ℕ) (z : ℤ) (b : ℕ)
      → (T (reaches ((layer_at k s t).val v) z) → ⊥)
      → T (achieves (layer_at k s t) z (effect_on v (move_at k b)))
      → 1 ≤ (take_achiever k (layer_at k s t) s d v z (some b)).count b
  unfolding take_achiever take_effect achieves layer_at layer
  taken_count d v z b low achieved = go (effect_on v (move_at k b)) achieved
    where
      go : (o : Option Effect) → T (achieves (layer_at k s t) z o) → 1 ≤ (take_effect k (layer_at k s t) s d v z b o).count b
      go none a = absurd a
      go (some e) a =
          let above = layer_mono k.moves s {t = 0} {u = t} (omega arith) in
          let n = runs e.kind z (s.val v) (layer_value (layer_at k s t) e) in
          omega (arith, runs_positive (layer_at k s t) s v z e above low a, counted_new d.count b n)

-- ---- the list of one layer
-- the list of a plan's records
abbrev list_of : List Record → List ℕ
list_of rs = plan_list (map move_and_count rs)

-- a layer's list: each move as often as its count, and those that are not counted not at all
layer_list :
    (t : ℕ) (count : ℕ → ℕ) (b n : ℕ)
    → list_of (layer_records t count b (suc n)) ≡ replicate (count b) b ++ list_of (layer_records t count (suc b) n)
unfolding layer_records plan_list
layer_list t count b n =
    elim_cases (λ rs. list_of rs ≡ replicate (count b) b ++ list_of (layer_records t count (suc b) n)) (eqb (count b) 0)
    (layer_records t count (suc b) n) (record { layer = t; move = b; count = count b } ∷ layer_records t count (suc b) n)
    (λ e. rw (eqb→eq (count b) 0 e))
    (λ e. refl)

list_append : (rs qs : List Record) → list_of (rs ++ qs) ≡ list_of rs ++ list_of qs
unfolding plan_list
list_append [] qs = refl
list_append (r ∷ rs) qs =
    rw (list_append rs qs) (sym (append_assoc (replicate r.count r.move) (list_of rs) (list_of qs)))

module _ (k : Task) where
  -- a move whose conditions hold in y and above is run n times in a row
  replicate_solves :
      (n b : ℕ) (y : State) (rest : List ℕ)
      → (1 ≤ n → b < length k.moves)
      → (1 ≤ n → (z : State) → Above y z → T (applicable z (move_at k b)))
      → Solves relaxed k (repeated n (move_at k b) y) rest
      → Solves relaxed k y (replicate n b ++ rest)
  unfolding repeated
  replicate_solves zero b y rest lt enabled solves = solves
  replicate_solves (suc n) b y rest lt enabled solves =
      let once = relaxed_above (move_at k b) y in (
        lt (omega arith),
        enabled (omega arith) y (above_refl y),
        replicate_solves n b (relaxed (move_at k b) y) rest
            (λ h. lt (omega arith)) (λ h z above. enabled (omega arith) z (above_trans once above)) solves,
      )

  -- the moves counted, from b on, run one after the other
  layer_solves :
      (t : ℕ) (count : ℕ → ℕ) (b n : ℕ) (y : State) (rest : List ℕ)
      → ((c : ℕ) → 1 ≤ count c → c < length k.moves)
      → ((c : ℕ) → 1 ≤ count c → (z : State) → Above y z → T (applicable z (move_at k c)))
      → ((z : State) → Ran k count b n y z → Solves relaxed k z rest)
      → Solves relaxed k y (list_of (layer_records t count b n) ++ rest)
  unfolding layer_records plan_list
  layer_solves t count b zero y rest lt enabled after =
      after y (record { above = above_refl y; each = λ c low high. absurd (omega arith) })
  layer_solves t count b (suc n) y rest lt enabled after =
      rw (layer_list t count b n, append_assoc (replicate (count b) b) later rest)
      (replicate_solves (count b) b y (later ++ rest) (lt b) (enabled b)
      (layer_solves t count (suc b) n x rest lt (λ c h z above. enabled c h z (above_trans y_x above))
      (λ z ran. after z (record { above = above_trans y_x ran.above; each = ran_each z ran }))))
    where
      later : List ℕ
      later = list_of (layer_records t count (suc b) n)

      x : State
      x = repeated (count b) (move_at k b) y

      y_x : Above y x
      y_x = repeated_above (count b) (move_at k b) y

      ran_each : (z : State) → Ran k count (suc b) n x z → (c : ℕ) → b ≤ c → c < b + suc n → RanOne k count c y z
      ran_each z ran c low high =
          below_suc b c (omega arith)
          (λ after-b.
          let one = ran.each c after-b (omega arith) in
          record { before = one.before; start = above_trans y_x one.start; end = one.end })
          (λ same.
          let end = subst (λ (a : ℕ). Above (repeated (count a) (move_at k a) y) z) same ran.above in
          record { before = y; start = above_refl y; end = end })

-- ---- the list of all layers
module _ {L : Limits} {k : Task} (ok : TaskOk L normal k) (s : State) where
  -- the records below layer t lead, from the state, to states that meet the wants of layer t
  layers_solve :
      (t : ℕ) (w : Wants) (rest : List ℕ)
      → Had k.props k.vars (layer_at k s t) w
      → ((y : State) → Above s y → Sat w (layer_of y) → Solves relaxed k y rest)
      → Solves relaxed k s (list_of (records_from k s t w) ++ rest)
  unfolding records_from plan_list layer_at layer move_at
  layers_solve zero w rest had after = after s (above_refl s) (had_sat had)
  layers_solve (suc t) w rest had after =
      rw (list_append below here, append_assoc (list_of below) (list_of here) rest)
      (layers_solve t d.wants (list_of here ++ rest) step.good.had
      (λ y above sat. layer_solves k t d.count 0 (length k.moves) y rest step.good.move
      (λ c h z up.
      let enabled = step.good.enabled c h z (above_trans above up) (sat_mono sat up.order) in
      subst T (usable_state z (move_ok ok c (step.good.move c h))) enabled)
      (λ z ran. after z (above_trans above ran.above) (step.leads.leads y z above sat ran))))
    where
      d : Descent
      d = descend k (layer_at k s t) s w

      below : List Record
      below = records_from k s t d.wants

      here : List Record
      here = layer_records t d.count 0 (length k.moves)

      step : Step k (layer_at k s t) s nothing d (λ z. Sat w (layer_of z))
      step = descend_step ok (layer_at k s t) s had

  -- "A plan's list is its records in order, each move written as many times in a row as its count." If layer m meets the goal,
  -- the plan's list solves the relaxed task: "each move's conditions hold when it runs and the goal holds at the end"
  pub plan_solves : (m : ℕ) → T (meets_goal k s m) → Solves relaxed k s (plan_list (map move_and_count (records k s m)))
  unfolding records meets_goal
  plan_solves m met =
      rw append-nil at (layers_solve m goal []
      (want_block_had L k.props k.vars l s no_wants k.goal ok.goal.items met (record { each = no_wants_each }))
      (λ y above sat.
      let enough = want_block_enough L k.props k.vars l s no_wants k.goal ok.goal.items above met sat in
      subst T (usable_state y ok.goal) enough))
    where
      l : Layer
      l = layer_at k s m

      goal : Wants
      goal = want_block l s no_wants k.goal
