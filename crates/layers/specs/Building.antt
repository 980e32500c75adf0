-- Building layers in a memory, layer by layer: what is known at layer t, and how each step ends.
-- Assumes nothing.
use Rattle.std.specs.Prelude.{ℕ, suc, ◌+◌, ◌-◌, ◌*◌, ◌≤◌, ◌<◌, ◌≡◌, Result, Ok, Err, Bool, true, false, List, [], ltb, ℤ, pos, length, drop, replicate}
use Rattle.std.proofs.Common.{inl, inr, mul-le-mul, mul-suc, add-one, arith, sym, ◌∙◌, ltb-true, ltb-false, lt-ltb, le-ltb, length-drop, length-take-le}
use Rattle.std.proofs.Math.Path.{refl, ap, subst}
use borrow.Rule.Slice.PartMut.{mid_of, put_mid, put_same}
use Rattle.std.proofs.Math.ListN.{get_or}
use Rattle.std.proofs.lemmas.List.{get_or-replicate}
use Rattle.layers.specs.declared.Built.{Built as BuiltAnswer}
use Rattle.layers.specs.declared.Built.TheVariants as answer
use Rattle.model.specs.declared.Refusal.{Refusal}
use Rattle.model.specs.declared.reason.Reason.{Reason}
use Rattle.model.specs.Reasons.{number_of}
use Rattle.layer_step.specs.declared.NextLayer.{NextLayer}
use Rattle.layer_step.specs.declared.NextLayer.TheVariants as outlook
use Rattle.model.specs.Limits.{paper}
use Rattle.model.specs.Task.{normal, Task}
use Rattle.model.specs.Move.{State, move_at}
use Rattle.model.specs.Layer.{Layer, usable, layer, layer_at, meets_goal, Passed, reached, exhausted, settled, bound}
use Rattle.model.specs.Memory.{room, wrong15, wrong14, overwrite, Built, answered, stopped, build, built_memory}
use Rattle.model.specs.Theorems.Reading.WellFormed.{TaskOk}
use Rattle.model.proofs.Theorems.Laws.Booleans.{T_true, true_t, false_not}
use Rattle.model.proofs.Theorems.Layers.Order.{usable_mono}
use Rattle.model.proofs.Theorems.Layers.NextLayer.{layer_rises, move_ok}
use Rattle.model.proofs.Theorems.Layers.Settled.{settled_equal}
use Rattle.model.proofs.Theorems.Layers.Answer.{passed_next, passed_bound, unsettled_unequal}
use Rattle.model.specs.Theorems.Layers.Building.{Stored, BuildsFrom}
use Rattle.model.specs.Theorems.Layers.Memories.{Holds, size}
use Rattle.model.proofs.Theorems.Layers.Memories.{holds_memory}
use Rattle.table.specs.Outlines.{Outline}
use Rattle.block.specs.Parts.{ranges_of}
use Rattle.block.specs.Blocks.{LayerState}
use Rattle.layer_memory.specs.Filling.{Filled, noted_at, row_at}
use Rattle.layer_memory.specs.Arrays.{Truths, row_values}
use Rattle.layers.specs.Goal.{IsMet, GoalTestable}
use Rattle.layer_moves.specs.UsingMoves.{UsedIn}
use Rattle.layer_step.specs.Step.{Counts, Steppable, Judged, judged, PartAfter, StepFrom, Stepped, RowStored, state_truths}
use Rattle.layer_memory.specs.Storing.{FilledAt, filled_behind, row_behind, holds_before, holds_layer, NotesMoves}

-- how building ended, as the definitions have it
unfoldable pub built_of : Result BuiltAnswer Refusal → Built
built_of (Ok (answer.Reached t)) = answered (reached t)
built_of (Ok (answer.Exhausted t)) = answered (exhausted t)
built_of (Err r) = stopped r.number r.place

-- the answer and the memory are right
pub record IsBuilt (k : Task) (s : State) (old mem : List ℤ) (r : Result BuiltAnswer Refusal) : Type 0 where
  pub ended : built_of r ≡ build paper k s (length old)
  pub memory : mem ≡ overwrite (built_memory k s (build paper k s (length old))) old

-- layer t is the last one stored, and building goes on from it
pub record Layered (k : Task) (s : State) (old : List ℤ) (t : ℕ) (mem : List ℤ) (has : List Bool) (row : List ℤ) : Type 0 where
  pub passed : Passed k s t
  pub stored : Stored paper k s (length old) t
  pub built : (b : Built) → BuildsFrom paper k s (length old) t b → build paper k s (length old) ≡ b
  pub holds : Holds k s (suc t) t old mem
  pub room : size k s (suc t) ≤ length old
  pub state : LayerState (ranges_of normal k) has row (layer_at k s t)

-- layers only grow: the moves that a step used are usable in the next layer
used_next : {k : Task} (s : State) (t : ℕ) {used : List Bool} → TaskOk paper normal k → Truths (length k.moves) used (λ b. usable (layer_at k s t) (move_at k b)) → UsedIn k (layer_at k s (suc t)) used
unfolding layer_at move_at
used_next {k} s t ok u =
    record {
      usable_there =
          λ b h e.
          T_true (usable (layer k.moves s (suc t)) (get_or k.moves b []))
          (usable_mono (move_ok ok b h) (layer_rises k.moves s t) (true_t (sym (u.same b h) ∙ e)));
    }

-- before the first step no move is marked
used_none : {k : Task} {l : Layer} → TaskOk paper normal k → UsedIn k l (replicate 64 false)
unfolding paper
used_none ok =
    record { usable_there = λ b h e. absurd (false_not (get_or-replicate 64 b false false (omega (arith, ok.moves))) (true_t e)) }

-- room for the layers up to t, or none
pub room_there : (k : Task) (s : State) (n t : ℕ) → size k s (suc t) ≤ n → wrong14 k n t ≡ false
unfolding wrong14 room
room_there k s n t h = le-ltb n (k.props + length k.moves + k.vars * (t + 1)) (rw (add-one t) h)

pub room_missing : (k : Task) (s : State) (n t : ℕ) → n < size k s (suc t) → wrong14 k n t ≡ true
unfolding wrong14 room
room_missing k s n t h = lt-ltb n (k.props + length k.moves + k.vars * (t + 1)) (rw (add-one t) h)

pub built_by : {k : Task} {s : State} {old mem : List ℤ} {r : Result BuiltAnswer Refusal} (b : Built) (new : List ℤ) → build paper k s (length old) ≡ b → built_of r ≡ b → built_memory k s b ≡ new → mem ≡ overwrite new old → IsBuilt k s old mem r
built_by {k} {s} {old} b new e f g m =
    record { ended = f ∙ sym e; memory = m ∙ ap (λ (l : List ℤ). overwrite l old) (sym (ap (built_memory k s) e ∙ g)) }

module _ {k : Task} (ok : TaskOk paper normal k) {s : State} {old : List ℤ} {t : ℕ} {mem : List ℤ} {has : List Bool} {row : List ℤ} (a : Layered k s old t mem has row) where
  -- the answer layer
  pub layered_reached : meets_goal k s t ≡ true → IsBuilt k s old mem (Ok (answer.Reached t))
  unfolding built_of built_memory
  layered_reached met =
      built_by (answered (reached t)) _ (a.built _ (BuildsFrom.answer a.stored met)) refl refl (holds_memory a.room a.holds)

  -- "the number of the last stored layer" is within the bound
  pub layered_bound : t ≤ bound (length k.moves) k.vars
  layered_bound = passed_bound ok s a.passed

  -- "no plan": the step that changes nothing counts
  pub layered_exhausted : {mem' : List ℤ} → meets_goal k s t ≡ false → settled k s t ≡ true → Holds k s (suc t) (suc t) old mem' → IsBuilt k s old mem' (Ok (answer.Exhausted t))
  unfolding built_of built_memory
  layered_exhausted unmet same held =
      built_by (answered (exhausted t)) _ (a.built _ (BuildsFrom.no_plan a.stored unmet ((settled_equal ok s t).0 same)))
      refl refl (holds_memory a.room held)

  module _ (unmet : meets_goal k s t ≡ false) (unsettled : settled k s t ≡ false) where
    passes : Passed k s (suc t)
    passes = passed_next a.passed unmet (unsettled_unequal ok s t unsettled)

    goes_on : (b : Built) → BuildsFrom paper k s (length old) (suc t) b → build paper k s (length old) ≡ b
    goes_on b r = a.built b (BuildsFrom.goes_on_lem a.stored unmet (unsettled_unequal ok s t unsettled) r)

    -- a layer more can be passed
    pub layered_below : t < bound (length k.moves) k.vars
    layered_below = passed_bound ok s passes

    -- 15: the memory holds every layer before
    pub layered_large : wrong15 paper k s (suc t) ≡ true → IsBuilt k s old mem (Err (record { number = 15; place = t + 1 }))
    unfolding built_of built_memory
    layered_large large =
        built_by (stopped 15 (suc t)) _ (goes_on _ (BuildsFrom.too_large large))
        (ap (stopped 15) (add-one t)) refl (holds_memory a.room a.holds)

    -- 14
    pub layered_short : wrong15 paper k s (suc t) ≡ false → length old < size k s (suc (suc t)) → IsBuilt k s old mem (Err (record { number = 14; place = t + 1 }))
    unfolding built_of built_memory
    layered_short small short =
        built_by (stopped 14 (suc t)) _ (goes_on _ (BuildsFrom.too_short small (room_missing k s (length old) (suc t) short)))
        (ap (stopped 14) (add-one t)) refl (holds_memory a.room a.holds)

    -- the next layer is stored
    pub layered_next :
        {mem' : List ℤ} {has' : List Bool} {row' : List ℤ}
        → wrong15 paper k s (suc t) ≡ false
        → size k s (suc (suc t)) ≤ length old
        → Holds k s (suc (suc t)) (suc t) old mem'
        → LayerState (ranges_of normal k) has' row' (layer_at k s (suc t))
        → Layered k s old (suc t) mem' has' row'
    layered_next small enough held state =
        record {
          passed = passes;
          stored = record { small = small; fits = room_there k s (length old) (suc t) enough };
          built = goes_on;
          holds = held;
          room = enough;
          state = state;
        }

-- at most (64 + 32 + 1) × (32 + 1) layers
pub bound_small : {k : Task} → TaskOk paper normal k → bound (length k.moves) k.vars ≤ 3201
unfolding bound paper
bound_small {k} ok =
    let h : length k.moves + k.vars + 1 ≤ 97 = omega (arith, ok.moves, ok.vars.0) in
    let i : k.vars + 1 ≤ 33 = omega (arith, ok.vars.0) in
    mul-le-mul h i

-- ---- a step of the loop

-- what the loop starts from: layer 0 stored
pub record Growable (table marks : List ℕ) (props vars moves : ℕ) (has : List Bool) (row mem : List ℤ) : Type 0 where
  pub task : Task
  pub start : State
  pub old : List ℤ
  pub outlined : Outline normal table marks task
  pub counts : Counts task props vars moves
  pub layered : Layered task start old 0 mem has row

-- what it ends with, in every reading
pub record Grown (table marks : List ℕ) (props vars moves : ℕ) (has : List Bool) (row mem mem' : List ℤ) (r : Result BuiltAnswer Refusal) : Type 0 where
  pub is : (k : Task) (s : State) (old : List ℤ) → Outline normal table marks k → Counts k props vars moves → Layered k s old 0 mem has row → IsBuilt k s old mem' r

-- layer t is the last one, and the moves marked as used are usable in it
pub record Grows (k : Task) (s : State) (old : List ℤ) (t : ℕ) (mem : List ℤ) (has : List Bool) (row : List ℤ) (used : List Bool) : Type 0 where
  pub layered : Layered k s old t mem has row
  pub used_in : UsedIn k (layer_at k s t) used

-- so it is in every reading, and the memory is free from `end` on
pub record Growing (table marks : List ℕ) (props vars moves : ℕ) (has₀ : List Bool) (row₀ mem₀ : List ℤ) (t : ℕ) (has : List Bool) (row : List ℤ) (used : List Bool) (mem : List ℤ) (end : ℕ) : Type 0 where
  pub end_is : end ≡ props + moves + vars * suc t
  pub same_length : length mem ≡ length mem₀
  pub is : (k : Task) (s : State) (old : List ℤ) → Outline normal table marks k → Counts k props vars moves → Layered k s old 0 mem₀ has₀ row₀ → Grows k s old t mem has row used

module _ {table marks : List ℕ} {props vars moves : ℕ} {k : Task} {s : State} {old : List ℤ} {t : ℕ} {mem : List ℤ} {has : List Bool} {row : List ℤ} (o : Outline normal table marks k) (c : Counts k props vars moves) (a : Layered k s old t mem has row) where
  pub goal_testable_at : GoalTestable table marks moves has row
  goal_testable_at = record { task = k; over = layer_at k s t; outlined = o; count = c.moves_is; state = a.state }

  pub steppable_at : {used : List Bool} → moves ≤ length used → Steppable table marks props vars moves has row has used
  steppable_at room =
      record {
        task = k;
        over = layer_at k s t;
        outlined = o;
        counts = c;
        state = a.state;
        flags_room = a.state.long;
        used_room = room;
      }

  pub memory_room : props + moves + vars * suc t ≤ length mem
  memory_room = rw (c.props_is, c.moves_is, c.vars_is) (omega (arith, a.room, a.holds.same_length))

  pub has_room : props ≤ length has
  has_room = rw c.props_is a.state.long

  pub count_small : moves ≤ 64
  unfolding paper
  count_small = omega (arith, c.moves_is, o.ok.moves)

  pub layer_small : t ≤ 3201
  layer_small = omega (arith, layered_bound o.ok a, bound_small o.ok)

  met_is : {r : Bool} → IsMet table marks moves has row r → r ≡ meets_goal k s t
  unfolding meets_goal
  met_is m = m.is k (layer_at k s t) o c.moves_is a.state

  pub reached_at : {r : Bool} → IsMet table marks moves has row r → r ≡ true → IsBuilt k s old mem (Ok (answer.Reached t))
  reached_at m e = layered_reached o.ok a (sym (met_is m) ∙ e)

  module _ {m : Bool} (met : IsMet table marks moves has row m) (no-goal : m ≡ false) {flags used used' : List Bool} {part : List ℤ} {r : Result NextLayer Reason} {end : ℕ} (at : end ≡ props + moves + vars * suc t) (before : UsedIn k (layer_at k s t) used) (stepped : Stepped table marks props vars moves has row has used (mid_of end (length mem - end) mem) flags used' part r) where
    unmet : meets_goal k s t ≡ false
    unmet = sym (met_is met) ∙ no-goal

    abbrev behind : List ℤ
    behind = mid_of end (length mem - end) mem

    step_from : StepFrom k s t behind flags used' part r
    step_from =
        stepped.is k s t (record { outlined = o; counts = c; state = a.state; begun = state_truths k a.state; used_in = before })

    place : end ≡ size k s (suc t)
    place = at ∙ rw (c.props_is, c.moves_is, c.vars_is) refl

    behind_length : length behind ≡ length mem - end
    behind_length = length-take-le (length mem - end) (drop end mem) (omega (arith, length-drop end mem))

    next_size : size k s (suc (suc t)) ≡ end + k.vars
    next_size = omega (arith, place, mul-suc k.vars (suc t))

    enough : end ≤ length mem
    enough = omega (arith, place, a.room, a.holds.same_length)

    checks : {x : Result NextLayer Reason} → r ≡ x → Judged x (settled k s t) (wrong15 paper k s (suc t)) (ltb (length behind) k.vars)
    checks {x} e =
        subst (λ (y : Result NextLayer Reason). Judged y (settled k s t) (wrong15 paper k s (suc t)) (ltb (length behind) k.vars)) (sym step_from.is ∙ e)
        (judged (settled k s t) (wrong15 paper k s (suc t)) (ltb (length behind) k.vars))

    written : {x : Result NextLayer Reason} → r ≡ x → PartAfter k.vars (layer_at k s (suc t)).val behind part x
    written e = subst (λ (y : Result NextLayer Reason). PartAfter k.vars (layer_at k s (suc t)).val behind part y) e step_from.part

    -- a part that is as it was leaves the memory as it was
    untouched : part ≡ behind → put_mid end (length mem - end) mem part ≡ mem
    untouched e = ap (put_mid end (length mem - end) mem) e ∙ put_same end (length mem - end) mem

    -- "no plan"
    pub exhausted_at : {mem' : List ℤ} → r ≡ Ok outlook.Same → NotesMoves props moves t used' (put_mid end (length mem - end) mem part) mem' → IsBuilt k s old mem' (Ok (answer.Exhausted t))
    exhausted_at {mem'} e n =
        layered_exhausted o.ok a unmet (checks e)
        ((subst (λ (l : List ℤ). NotesMoves props moves t used' l mem') (untouched (written e)) n).is k s (suc t) old c.props_is c.moves_is step_from.uses a.holds)

    -- 15 and 14
    pub stopped_at : {because : Reason} → r ≡ Err because → IsBuilt k s old (put_mid end (length mem - end) mem part) (Err (record { number = number_of because; place = t + 1 }))
    stopped_at e =
        let told = checks e in
        elim told.1 [
          | inl x ↦ rw (x.0, untouched (written e)) (layered_large o.ok a unmet told.0 x.1)
          | inr x ↦
              let short : length behind < k.vars = ltb-true (length behind) k.vars x.2 in
              rw (x.0, untouched (written e)) (layered_short o.ok a unmet told.0 x.1 (omega (arith, next_size, behind_length, enough, a.holds.same_length)))
        ]

    module _ (e : r ≡ Ok outlook.New) where
      pub below_bound : t < bound moves vars
      below_bound = rw (c.moves_is, c.vars_is) (layered_below o.ok a unmet (checks e).0)

      fits : end + k.vars ≤ length mem
      fits = let long : k.vars ≤ length behind = ltb-false (length behind) k.vars (checks e).2 in omega (arith, behind_length, enough)

      pub new_room : end + vars ≤ length mem
      new_room = rw c.vars_is fits

      -- the next layer is the last one stored
      pub next_at :
          {mem' mem'' row' : List ℤ}
          → RowStored vars row' behind part r
          → NotesMoves props moves t used' (put_mid end (length mem - end) mem part) mem'
          → Filled (pos 0) (noted_at mem' flags (t + 1)) props mem' mem''
          → Grows k s old (suc t) mem'' flags row' used'
      unfolding row_at
      next_at {mem'} {mem''} {row'} q n f =
          let stored : (vars ≤ length row') × Filled (pos 0) (row_at row') vars behind part = subst (λ (y : Result NextLayer Reason). RowStored vars row' behind part y) e q in
          let mem₁ = put_mid end (length mem - end) mem part in
          let at₁ : FilledAt (row_at part) (size k s (suc t)) k.vars mem mem₁ =
          subst (λ (x : ℕ). FilledAt (row_at part) x k.vars mem mem₁) place
          (filled_behind (row_at part) end k.vars mem part fits (record { same_length = (written e).same_length; done = λ i h. refl; kept = (written e).kept })) in
          let noted : Holds k s (suc t) (suc t) mem₁ mem' = n.is k s (suc t) mem₁ c.props_is c.moves_is step_from.uses (holds_before a.holds at₁) in
          let f₁ : Filled (pos 0) (noted_at mem' flags (suc t)) k.props mem' mem'' =
          subst (λ (x : ℕ). Filled (pos 0) (noted_at mem' flags (suc t)) x mem' mem'') c.props_is
          (subst (λ (x : ℕ). Filled (pos 0) (noted_at mem' flags x) props mem' mem'') (add-one t) f) in
          let held : Holds k s (suc (suc t)) (suc t) old mem'' =
          holds_layer (row_behind s (row_values (written e).row) at₁ a.holds.same_length a.holds.kept) noted step_from.truths f₁ in
          record {
            layered =
                layered_next o.ok a unmet (checks e).0 (checks e).1 (omega (arith, next_size, fits, a.holds.same_length)) held
                (record {
                  long = step_from.truths.long;
                  has = step_from.truths.same;
                  row =
                      record {
                        long = omega (arith, stored.0, c.vars_is);
                        each = λ v h. let w = (written e).row.each v h in record { is = sym (stored.1.done v (omega (arith, c.vars_is))) ∙ w.is; size = w.size };
                      };
                });
            used_in = used_next s t o.ok step_from.uses;
          }

module _ {table marks : List ℕ} {props vars moves : ℕ} {has₀ : List Bool} {row₀ mem₀ : List ℤ} where
  pub growing_start : Growing table marks props vars moves has₀ row₀ mem₀ 0 has₀ row₀ (replicate 64 false) mem₀ (props + moves + vars)
  growing_start = record { end_is = omega arith; same_length = refl; is = λ k s old o c a. record { layered = a; used_in = used_none o.ok } }

  pub growing_next :
      {t : ℕ} {has : List Bool} {row : List ℤ} {used : List Bool} {mem : List ℤ} {end : ℕ} {has' : List Bool} {row' : List ℤ} {used' : List Bool} {mem' : List ℤ}
      → Growing table marks props vars moves has₀ row₀ mem₀ t has row used mem end
      → length mem' ≡ length mem
      → ((k : Task) (s : State) (old : List ℤ) → Outline normal table marks k → Counts k props vars moves → Grows k s old t mem has row used → Grows k s old (suc t) mem' has' row' used')
      → Growing table marks props vars moves has₀ row₀ mem₀ (t + 1) has' row' used' mem' (end + vars)
  growing_next {t} {has'} {row'} {used'} {mem'} g l f =
      record {
        end_is = rw (add-one t) (omega (arith, g.end_is, mul-suc vars (suc t)));
        same_length = l ∙ g.same_length;
        is =
            λ k s old o c a.
            subst (λ (u : ℕ). Grows k s old u mem' has' row' used') (sym (add-one t)) (f k s old o c (g.is k s old o c a));
      }

-- ---- what the loop knows at layer t

module _ {table marks : List ℕ} {props vars moves : ℕ} {has₀ : List Bool} {row₀ mem₀ : List ℤ} (p : Growable table marks props vars moves has₀ row₀ mem₀) {t : ℕ} {has : List Bool} {row : List ℤ} {used : List Bool} {mem : List ℤ} {end : ℕ} (g : Growing table marks props vars moves has₀ row₀ mem₀ t has row used mem end) where
  pub grows_now : Grows p.task p.start p.old t mem has row used
  grows_now = g.is p.task p.start p.old p.outlined p.counts p.layered

  pub end_within : end ≤ length mem
  end_within = omega (arith, memory_room p.outlined p.counts grows_now.layered, g.end_is)

  pub front_within : props + moves ≤ length mem
  front_within = omega (arith, memory_room p.outlined p.counts grows_now.layered)

  pub moves_few : moves ≤ 64
  moves_few = count_small p.outlined p.counts grows_now.layered

  pub layers_few : t ≤ 3201
  layers_few = layer_small p.outlined p.counts grows_now.layered

  pub props_within : props ≤ length has
  props_within = has_room p.outlined p.counts grows_now.layered
