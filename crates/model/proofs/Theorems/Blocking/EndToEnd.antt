-- The goal part that blocks, from bytes to its answer: an offset is the true reason, in the normal table and in the written table that it
-- is the normal form of; there is one exactly when no list solves the relaxed task.
-- Assumes nothing.
use Rattle.std.specs.Prelude.{ℕ, ◌*◌, ◌/◌, ◌≤◌, ◌≡◌, refl, ◌↔◌, false, List, ℤ, length, replicate, Option, Some, None, Result, Ok, Err}
use Rattle.std.proofs.Math.Path.{sym, subst}
use Rattle.std.proofs.Common.{ap, ◌∙◌, arith}
use Rattle.std.proofs.Math.Option.{none}
use Rattle.std.proofs.lemmas.List.{length-replicate}
use Rattle.model.specs.Limits.{paper}
use Rattle.model.specs.Task.{written, normal}
use Rattle.model.specs.NormalForm.{normal_task}
use Rattle.model.specs.Move.{relaxed, Solves}
use Rattle.model.specs.Layer.{layer_at, reported}
use Rattle.model.specs.Reading.{Table, accepted, only, reading}
use Rattle.model.specs.StateTable.{state_refusal}
use Rattle.model.specs.Memory.{room, wrong15, answered}
use Rattle.model.specs.Calls.{normal_bytes, decide_answer, plan_records}
use Rattle.model.specs.Blocking.{goal_part, blocking_answer}
use Rattle.model.proofs.Theorems.Reading.Accepted.{reading_task, accepted_one}
use Rattle.model.specs.Theorems.NormalForm.Print.{normal_table}
use Rattle.model.proofs.Theorems.NormalForm.Print.{normal_accepted, normal_state}
use Rattle.model.specs.Theorems.Campaigns.Demand2.{normal_part}
use Rattle.model.proofs.Theorems.Campaigns.Demand2.{normalise_leaves}
use Rattle.model.specs.Theorems.Campaigns.Demand3.{relaxed_task, start_state, layer_zero, end_of, Given, DecideNoPlan}
use Rattle.model.proofs.Theorems.Campaigns.EndToEnd.{demand3}
use Rattle.model.proofs.Theorems.Blocking.Parts.{first_unmet_holds}
use Rattle.model.proofs.Theorems.Blocking.Calls.{blocks_means, blocks_where}
use Rattle.model.proofs.Theorems.Blocking.Reason.{first_unreachable, keeping_unreachable}
use Rattle.model.specs.Theorems.Blocking.Written.{CameFrom}
use Rattle.model.proofs.Theorems.Blocking.Written.{came_from, keeping_item, keeping_item_relaxed}
use Rattle.model.specs.Theorems.Blocking.EndToEnd.{Blocker, Reasoned, TrueReason, WrittenReason}
use Rattle.model.specs.declared.Refusal.{Refusal}

-- For any bytes whatever: an offset is the true reason.
pub true_reason : (t bs : List ℕ) (mem : List ℤ) (offset : ℕ) → blocking_answer paper t bs mem ≡ Ok (Some offset) → TrueReason t bs offset
true_reason t bs mem offset e =
    let a = (blocks_means t bs mem offset).0 e in
    let k = a.table.task in
    let s = layer_zero a.table bs in
    let found = (first_unmet_holds k (layer_at k s a.layers) a.part).1 a.first in
    let first = (first_unreachable (reading_task paper normal t a.read) s a.layers a.exhausted.equal a.part).0 found in
    record {
      table = a.table;
      read = a.read;
      state = a.state;
      blocker =
          record {
            part = a.part;
            at = a.offset;
            first = first;
            keeping = keeping_unreachable k s (goal_part k a.part) first.unreachable;
          };
    }

-- it is so for any bytes whatever
pub answer_reasoned : (t bs : List ℕ) (mem : List ℤ) → Reasoned t bs (blocking_answer paper t bs mem)
answer_reasoned t bs mem = go (blocking_answer paper t bs mem) refl
  where
    go : (r : Result (Option ℕ) Refusal) → blocking_answer paper t bs mem ≡ r → Reasoned t bs r
    go (Ok (Some offset)) e = true_reason t bs mem offset e
    go (Ok None) e = tt
    go (Err r) e = tt

module _ (t bs normalOut : List ℕ) (mem : List ℤ) (w : Table) (read : reading paper (only written) t ≡ accepted w)
    (fits : length (normal_bytes w.task) ≤ length normalOut) where
  -- the bytes that normalise writes
  abbrev nb : List ℕ
  nb = normal_part t normalOut (length (normal_bytes w.task))

  normal_reason : (offset : ℕ) → TrueReason (normal_bytes w.task) bs offset → WrittenReason w bs offset
  unfolding normal_table normal_task
  normal_reason offset r =
      let same : r.table ≡ normal_table w.task = accepted_one (sym r.read ∙ normal_accepted t read) in
      let b : Blocker (relaxed_task w) (layer_zero w bs) offset = subst (λ (n : Table). Blocker n.task (layer_zero n bs) offset) same r.blocker in
      let c : CameFrom w.task.goal b.part = came_from w.task.goal b.part b.first.inside in
      record {
        state =
            sym (normal_state paper w.task bs)
            ∙ subst (λ (n : Table). state_refusal paper n.task.props (n.task.vars / 2) bs ≡ none) same r.state;
        blocker = b;
        from = c;
        unsolvable = keeping_item w.task (start_state w bs) b.part c b.first.unreachable (reading_task paper written t read);
        keeping = keeping_item_relaxed w.task (start_state w bs) b.part c b.first.unreachable;
      }

  -- For an accepted written table, and an output with room for its normal form: an offset that blocks in the bytes that normalise writes
  -- is the true reason in the written table too.
  pub written_reason : (offset : ℕ) → blocking_answer paper nb bs mem ≡ Ok (Some offset) → WrittenReason w bs offset
  written_reason offset e =
      normal_reason offset
      (true_reason (normal_bytes w.task) bs mem offset
      (ap (λ (n : List ℕ). blocking_answer paper n bs mem) (sym (normalise_leaves t normalOut w read fits)) ∙ e))

  -- "When a campaign comes back as "no plan", engineers want to know what to give up.": where decide answers so there is such an offset.
  pub no_plan_reason :
      DecideNoPlan (decide_answer paper nb bs mem)
      → (offset : ℕ) × (blocking_answer paper nb bs mem ≡ Ok (Some offset)) × WrittenReason w bs offset
  no_plan_reason no_plan =
      let found = (blocks_where nb bs mem).1 no_plan in
      (found.0, found.1, written_reason found.0 found.1)

-- ---- where there is an offset
-- By demand 3's premises, the one about plan's output left out: for a written table and a state that are accepted, with room in each memory
-- and no finite layer value past 1,000,000,000,000, there is an offset exactly when no list of any length solves the relaxed task.
module _ (t bs normalOut : List ℕ) (layers : List ℤ) (w : Table)
    (read : reading paper (only written) t ≡ accepted w)
    (state : state_refusal paper w.task.props w.task.vars bs ≡ none)
    (normal_room : length (normal_bytes w.task) ≤ length normalOut)
    (layer_room : room (relaxed_task w) (reported (end_of w bs)) ≤ length layers)
    (small : (u : ℕ) → u ≤ reported (end_of w bs) → wrong15 paper (relaxed_task w) (layer_zero w bs) u ≡ false) where
  -- some output with room for the plan
  abbrev plan_size : ℕ
  plan_size = 10 * length (plan_records (relaxed_task w) (layer_zero w bs) (answered (end_of w bs)))

  given : Given t bs normalOut layers (replicate plan_size 0)
  given =
      record {
        table = w;
        read = read;
        state = state;
        normal_room = normal_room;
        layer_room = layer_room;
        plan_room = omega (arith, length-replicate {A = ℕ} plan_size 0);
        small = small;
      }

  pub blocks_unsolvable :
      ((o : ℕ) × (blocking_answer paper (normal_part t normalOut (length (normal_bytes w.task))) bs layers ≡ Ok (Some o)))
      ↔ ((list : List ℕ) → Solves relaxed (relaxed_task w) (layer_zero w bs) list → ⊥)
  unfolding given
  blocks_unsolvable =
      let decides = (demand3 t bs normalOut layers (replicate plan_size 0) given).decide_no_plan in
      let blocks = blocks_where (normal_part t normalOut (length (normal_bytes w.task))) bs layers in
      (λ part. decides.0 (blocks.0 part), λ never. blocks.1 (decides.1 never))
