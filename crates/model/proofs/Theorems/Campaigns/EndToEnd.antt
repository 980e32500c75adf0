-- Demand 3 proved: from the bytes of an accepted written table and state to the answers; and the bound on layers for every
-- answer whatever. Assumes nothing.
use Rattle.std.specs.Prelude.{ℕ, ◌/◌, ◌≤◌, ◌≡◌, refl, false, ℤ, length, drop, Result, Ok}
use Rattle.std.proofs.Common.{sym, subst, ◌∙◌, arith}
use Rattle.std.proofs.Math.Path.{ap}
use mathlib.Core.List.{List, map}
use Rattle.std.proofs.Math.Option.{Option, none, some}
use Rattle.model.specs.Limits.{paper}
use Rattle.model.specs.Task.{written, normal}
use Rattle.model.specs.Move.{State, Solves, relaxed}
use Rattle.model.specs.NormalForm.{normal_task}
use Rattle.model.specs.StateTable.{state_refusal}
use Rattle.model.specs.declared.Refusal.{Refusal}
use Rattle.model.specs.Layer.{Outcome, reached, exhausted, reported}
use Rattle.model.specs.Reading.{Table, accepted, refused, Verdict, only, reading}
use Rattle.model.specs.Memory.{Built, answered, stopped, wrong15, build, overwrite}
use Rattle.model.specs.Plan.{Record, helpful_moves, move_and_count, plan_list}
use Rattle.model.specs.Calls.{Ready, ready, unready, ready_with, ready_of, prepared, decide_of, plan_of, plan_fitted, normal_bytes, normalise_answer, decided, planned, plan_records, decide_answer, plan_answer, plan_out, record_bytes, records_read}
use Rattle.model.specs.declared.DecideAnswer.{DecideAnswer}
use Rattle.model.specs.declared.DecideAnswer.TheVariants as decide
use Rattle.model.specs.declared.PlanAnswer.{PlanAnswer}
use Rattle.model.specs.declared.PlanAnswer.TheVariants as plan
use Rattle.model.specs.Theorems.Reading.WellFormed.{TaskOk}
use Rattle.model.proofs.Theorems.Laws.Booleans.{true_t}
use Rattle.model.proofs.Theorems.Printing.Outputs.{plan_cases}
use Rattle.model.proofs.Theorems.Layers.Relaxation.{real_solves_relaxed}
use Rattle.model.specs.Theorems.Layers.Answer.{Answered}
use Rattle.model.proofs.Theorems.Layers.Answer.{answered as search-answered, exhausted_no_plan, reported_bound}
use Rattle.model.proofs.Theorems.Layers.Building.{build_answers, built_outcome}
use Rattle.model.proofs.Theorems.Reading.Accepted.{reading_head, reading_task}
use Rattle.model.specs.Theorems.NormalForm.Print.{normal_table}
use Rattle.model.proofs.Theorems.NormalForm.Print.{normal_accepted}
use Rattle.model.proofs.Theorems.NormalForm.Moves.{written_normal}
use Rattle.model.proofs.Theorems.NormalForm.Task.{normal_ok}
use Rattle.model.proofs.Theorems.Plans.Solving.{plan_solves}
use Rattle.model.specs.Theorems.Sizes.States.{SmallState}
use Rattle.model.proofs.Theorems.Sizes.States.{accepted_small, normal_state_small}
use Rattle.model.proofs.Theorems.Sizes.Plans.{reported_most}
use Rattle.model.proofs.Theorems.Printing.ReadBack.{plan_read, plan_bytes}
use Rattle.model.specs.Theorems.Campaigns.Demand2.{normal_part}
use Rattle.model.proofs.Theorems.Campaigns.Demand2.{normalise_answers, normalise_leaves}
use Rattle.model.specs.Theorems.Campaigns.Demand3.{relaxed_task, start_state, layer_zero, end_of, Given, records_of, decide_layers, plan_layers, Answers}
use Rattle.model.proofs.Theorems.Campaigns.Demand3.{ready_normal, decide_answers, plan_answers, plan_writes}
use Rattle.model.specs.Theorems.Campaigns.EndToEnd.{LayersWithin, Within}

-- different answers
decide_differs : (m n r : ℕ) → ◌≡◌ {A = Result DecideAnswer Refusal} (Ok (decide.Plan m n)) (Ok (decide.NoPlan r)) → ⊥
decide_differs m n r e = let z : ◌≡◌ {A = ℕ} 0 1 = cc in omega arith

plan_differs : (m n a b r : ℕ) → ◌≡◌ {A = Result PlanAnswer Refusal} (Ok (plan.Plan m n a b)) (Ok (plan.NoPlan r 0 0)) → ⊥
plan_differs m n a b r e = let z : ◌≡◌ {A = ℕ} 0 1 = cc in omega arith

module _ (t bs normalOut : List ℕ) (layers : List ℤ) (out : List ℕ) (g : Given t bs normalOut layers out) (ok : TaskOk paper written g.table.task) (n : Table) (back : reading paper (only normal) (normal_bytes g.table.task) ≡ accepted n) (same : n.task ≡ relaxed_task g.table) where
  w : Table
  w = g.table

  ok_normal : TaskOk paper normal (relaxed_task g.table)
  ok_normal = normal_ok paper g.table.task ok

  ready_is : prepared paper (normal_bytes g.table.task) bs ≡ ready (relaxed_task g.table) (layer_zero g.table bs)
  ready_is = ready_normal g.table n bs back same g.state

  built : build paper (relaxed_task g.table) (layer_zero g.table bs) (length layers) ≡ answered (end_of g.table bs)
  built = build_answers paper (relaxed_task g.table) (layer_zero g.table bs) (length layers) g.small g.layer_room

  start : SmallState (relaxed_task g.table).vars (layer_zero g.table bs)
  unfolding normal_task
  start = normal_state_small (omega arith) (accepted_small g.table.task.props g.table.task.vars bs g.state)

  abbrev Goal : List ℕ → Type 0
  Goal nb =
      Answers g.table bs (normalise_answer paper t normalOut) nb (decide_answer paper nb bs layers) (plan_answer paper nb bs layers out)
      out (plan_out paper nb bs layers out)

  decides_as : (o : Outcome) → end_of g.table bs ≡ o → decide_answer paper (normal_bytes g.table.task) bs layers ≡ decided (answered o)
  decides_as o e = decide_answers g.table n bs layers out ready_is built ∙ ap (λ (x : Outcome). decided (answered x)) e

  plans_as :
      (o : Outcome) → end_of g.table bs ≡ o
      → plan_answer paper (normal_bytes g.table.task) bs layers out
      ≡ planned (relaxed_task g.table) (layer_zero g.table bs) (answered o)
  plans_as o e =
      plan_answers g.table n bs layers out ready_is built g.plan_room
      ∙ ap (λ (x : Outcome). planned (relaxed_task g.table) (layer_zero g.table bs) (answered x)) e

  writes_as :
      (o : Outcome) → end_of g.table bs ≡ o
      → plan_out paper (normal_bytes g.table.task) bs layers out
      ≡ overwrite (record_bytes (plan_records (relaxed_task g.table) (layer_zero g.table bs) (answered o))) out
  writes_as o e =
      plan_writes g.table n bs layers out ready_is built g.plan_room
      ∙ ap (λ (x : Outcome). overwrite (record_bytes (plan_records (relaxed_task g.table) (layer_zero g.table bs) (answered x))) out) e

  -- by how the search ends
  by_outcome : (o : Outcome) → end_of g.table bs ≡ o → Answered (relaxed_task g.table) (layer_zero g.table bs) o → Goal (normal_bytes g.table.task)
  unfolding decided planned plan_records decide_layers plan_layers reported overwrite record_bytes
  by_outcome (reached m) e a =
      record {
        normalise = normalise_answers t normalOut g.table g.read g.normal_room;
        normal_form = refl;
        decide_no_plan = (
          λ no_plan. absurd (decide_differs m m no_plan.layers (sym (decides_as (reached m) e) ∙ no_plan.is)),
          λ none. absurd (none list solves),
        );
        plan_no_plan = (
          λ no_plan.
              absurd
              (plan_differs m m (length rs) (helpful_moves (relaxed_task g.table) (layer_zero g.table bs) m) no_plan.layers
              (sym (plans_as (reached m) e) ∙ no_plan.is)),
          λ none. absurd (none list solves),
        );
        unsolvable = λ no_plan. absurd (decide_differs m m no_plan.layers (sym (decides_as (reached m) e) ∙ no_plan.is));
        decide_reports = ap decide_layers (decides_as (reached m) e) ∙ ap (λ (x : Outcome). some (reported x)) (sym e);
        plan_reports = ap plan_layers (plans_as (reached m) e) ∙ ap (λ (x : Outcome). some (reported x)) (sym e);
        not_found = λ no_plan. absurd (decide_differs m m no_plan.layers (sym (decides_as (reached m) e) ∙ no_plan.is));
        found =
            λ some-plan.
            record {
              layer = m;
              answer_layer = a;
              decides = decides_as (reached m) e;
              plans = plans_as (reached m) e;
              output = writes_as (reached m) e;
              bytes = plan_bytes ok_normal start m small most;
              read =
                  ap (records_read (length rs)) (writes_as (reached m) e)
                  ∙ plan_read ok_normal start m small most (drop (length (record_bytes rs)) out);
              solves = solves;
            };
      }
    where
      rs : List Record
      rs = records_of g.table bs m

      small : (u : ℕ) → u ≤ m → wrong15 paper (relaxed_task g.table) (layer_zero g.table bs) u ≡ false
      small u h = g.small u (rw e h)

      most : m ≤ 3201
      most = rw e at (reported_most ok_normal (layer_zero g.table bs))

      list : List ℕ
      list = plan_list (map move_and_count rs)

      solves : Solves relaxed (relaxed_task g.table) (layer_zero g.table bs) list
      solves = plan_solves ok_normal (layer_zero g.table bs) m (true_t a.met)
  by_outcome (exhausted m) e a =
      record {
        normalise = normalise_answers t normalOut g.table g.read g.normal_room;
        normal_form = refl;
        decide_no_plan = (λ no_plan. never, λ none. record { layers = m; is = decides_as (exhausted m) e });
        plan_no_plan = (λ no_plan. never, λ none. record { layers = m; is = plans_as (exhausted m) e });
        unsolvable =
            λ no_plan list real-list.
            never list
            (real_solves_relaxed ok_normal (layer_zero g.table bs) list
            ((written_normal g.table.task list (start_state g.table bs)).0 real-list));
        decide_reports = ap decide_layers (decides_as (exhausted m) e) ∙ ap (λ (x : Outcome). some (reported x)) (sym e);
        plan_reports = ap plan_layers (plans_as (exhausted m) e) ∙ ap (λ (x : Outcome). some (reported x)) (sym e);
        not_found =
            λ no_plan.
            record {
              layers = m;
              exhausted = a;
              decides = decides_as (exhausted m) e;
              plans = plans_as (exhausted m) e;
              kept = writes_as (exhausted m) e;
            };
        found = λ some-plan. absurd (some-plan (record { layers = m; is = decides_as (exhausted m) e }));
      }
    where
      never : (list : List ℕ) → Solves relaxed (relaxed_task g.table) (layer_zero g.table bs) list → ⊥
      never = exhausted_no_plan ok_normal (layer_zero g.table bs) m e

  whole : Goal (normal_part t normalOut (length (normal_bytes g.table.task)))
  whole =
      subst Goal (sym (normalise_leaves t normalOut g.table g.read g.normal_room))
      (by_outcome (end_of g.table bs) refl (search-answered ok_normal (layer_zero g.table bs)))

-- DEMAND 3. For a written table and a state that are accepted, with room in every memory and no finite layer value past
-- 1,000,000,000,000: normalise writes the normal form, and on exactly those bytes decide and plan answer "no plan" exactly when
-- no list of any length solves the relaxed task, and then none solves the table as written; otherwise they give the answer layer
-- and the records, which are read back from the bytes that plan writes and whose list solves the relaxed task; both give the
-- reported layers.
pub demand3 :
    (t bs normalOut : List ℕ) (layers : List ℤ) (out : List ℕ) (g : Given t bs normalOut layers out)
    → let nb = normal_part t normalOut (length (normal_bytes g.table.task)) in
    Answers g.table bs (normalise_answer paper t normalOut) nb (decide_answer paper nb bs layers) (plan_answer paper nb bs layers out)
    out (plan_out paper nb bs layers out)
unfolding normal_table
demand3 t bs normalOut layers out g =
    whole t bs normalOut layers out g (reading_task paper written t g.read) (normal_table g.table.task)
    (normal_accepted t g.read) refl

module _ (t : List ℕ) (w : Table) (e : reading paper (only normal) t ≡ accepted w) (s : State) (size : ℕ) where
  within : (o : Outcome) → build paper w.task s size ≡ answered o → Within t (reported o)
  within o h =
      record {
        table = w;
        read = e;
        bounded =
            rw ((reading_head paper (only normal) t e).1, (reading_head paper (only normal) t e).2, built_outcome paper w.task s size o h)
            (reported_bound (reading_task paper normal t e) s);
      }

  within_decided : (b : Built) → build paper w.task s size ≡ b → LayersWithin t (decide_layers (decided b))
  unfolding decided decide_layers reported
  within_decided (answered (reached m)) h = within (reached m) h
  within_decided (answered (exhausted m)) h = within (exhausted m) h
  within_decided (stopped n m) h = tt

  within_planned : (room : ℕ) (b : Built) → build paper w.task s size ≡ b → LayersWithin t (plan_layers (plan_fitted room w.task s b))
  unfolding planned plan_layers reported
  within_planned room b h = plan_cases room w.task s b (λ (a : Result PlanAnswer Refusal). LayersWithin t (plan_layers a)) (λ whole. go b h) tt
    where
      go : (b : Built) → build paper w.task s size ≡ b → LayersWithin t (plan_layers (planned w.task s b))
      go (answered (reached m)) h = within (reached m) h
      go (answered (exhausted m)) h = within (exhausted m) h
      go (stopped n m) h = tt

-- decide, plan and blocking start from an accepted table's task and an accepted state, or turn back
pub prepared_cases :
    (P : Ready → Type 0) (t bs : List ℕ)
    → ((w : Table) → reading paper (only normal) t ≡ accepted w → state_refusal paper w.task.props (w.task.vars / 2) bs ≡ none → P (ready w.task (layer_zero w bs)))
    → ((r : Refusal) → P (unready r))
    → P (prepared paper t bs)
unfolding prepared ready_of ready_with
prepared_cases P t bs go back = by_verdict (reading paper (only normal) t) refl
  where
    by_state :
        (w : Table) → reading paper (only normal) t ≡ accepted w
        → (r : Option Refusal) → state_refusal paper w.task.props (w.task.vars / 2) bs ≡ r
        → P (ready_with w.task bs r)
    by_state w e none f = go w e f
    by_state w e (some r) f = back r

    by_verdict : (v : Verdict) → reading paper (only normal) t ≡ v → P (ready_of paper v bs)
    by_verdict (accepted w) e = by_state w e (state_refusal paper w.task.props (w.task.vars / 2) bs) refl
    by_verdict (refused r) e = back r

pub decide_within : (t bs : List ℕ) (layers : List ℤ) → LayersWithin t (decide_layers (decide_answer paper t bs layers))
unfolding decide_answer decide_of decide_layers
decide_within t bs layers =
    prepared_cases (λ (r : Ready). LayersWithin t (decide_layers (decide_of paper (length layers) r))) t bs
    (λ w e state. within_decided t w e (layer_zero w bs) (length layers) (build paper w.task (layer_zero w bs) (length layers)) refl) (λ r. tt)

pub plan_within :
    (t bs : List ℕ) (layers : List ℤ) (out : List ℕ) → LayersWithin t (plan_layers (plan_answer paper t bs layers out))
unfolding plan_answer plan_of plan_layers
plan_within t bs layers out =
    prepared_cases (λ (r : Ready). LayersWithin t (plan_layers (plan_of paper (length layers) (length out) r))) t bs
    (λ w e state.
    let s = layer_zero w bs in
    let b : Built = build paper w.task s (length layers) in
    within_planned t w e s (length layers) (length out) b refl)
    (λ r. tt)
