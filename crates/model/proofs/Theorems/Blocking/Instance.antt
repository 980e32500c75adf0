-- The goal part that blocks at a written table whose goal is an `=`: its second half blocks. The premises of the theorems can be met, with
-- the memories that document 01 names and no more. Assumes nothing.
use Rattle.std.specs.Prelude.{ℕ, zero, suc, ◌≤◌, ◌≡◌, refl, false, List, [], pos, length, replicate, Some, Ok}
use Rattle.std.proofs.Common.{subst, arith, lit≤}
use Rattle.std.proofs.Math.Option.{none}
use Rattle.model.specs.Limits.{paper}
use Rattle.model.specs.Lists.{In}
use Rattle.model.specs.Task.{written, Item, Block}
use Rattle.model.specs.Move.{real, relaxed, Solves}
use Rattle.model.specs.Layer.{reported}
use Rattle.model.specs.Reading.{accepted, only, reading}
use Rattle.model.specs.StateTable.{state_refusal}
use Rattle.model.specs.Memory.{room, wrong15}
use Rattle.model.specs.Calls.{normal_bytes}
use Rattle.model.specs.Blocking.{blocking_answer}
use Rattle.model.specs.Theorems.Campaigns.Tables.{zeros}
use Rattle.model.specs.Theorems.Campaigns.Computing.{computing}
use Rattle.model.specs.Theorems.Campaigns.Instance.{table_in}
use Rattle.model.specs.Theorems.Campaigns.Demand3.{relaxed_task, start_state, layer_zero, end_of}
use Rattle.model.specs.Theorems.Blocking.Cases.{missed}
use Rattle.model.specs.Theorems.Blocking.Goals.{with_goal}
use Rattle.model.specs.Theorems.Blocking.Written.{CameFrom}
use Rattle.model.proofs.Theorems.Blocking.Written.{came_one}
use Rattle.model.specs.Theorems.Blocking.EndToEnd.{TrueReason, WrittenReason}
use Rattle.model.proofs.Theorems.Blocking.EndToEnd.{true_reason, written_reason, blocks_unsolvable}
use Rattle.model.specs.Theorems.Blocking.Instance.{minus_one, missed_normal, missed_table}

missed_read : reading paper (only written) missed ≡ accepted missed_table
unfolding computing missed missed_table table_in
missed_read = refl

missed_state : state_refusal paper missed_table.task.props missed_table.task.vars (zeros 4) ≡ none
unfolding computing missed missed_table table_in
missed_state = refl

missed_room : length (normal_bytes missed_table.task) ≤ length (zeros 41)
unfolding computing missed missed_table table_in
missed_room = lit≤ tt

missed_layers : room (relaxed_task missed_table) (reported (end_of missed_table (zeros 4))) ≤ length (replicate 5 (pos 7))
unfolding computing missed missed_table table_in
missed_layers = lit≤ tt

missed_small : (u : ℕ) → u ≤ reported (end_of missed_table (zeros 4)) → wrong15 paper (relaxed_task missed_table) (layer_zero missed_table (zeros 4)) u ≡ false
unfolding computing missed missed_table table_in
missed_small zero h = refl
missed_small (suc zero) h = refl
missed_small (suc (suc u)) h = absurd (omega arith)

-- v ≥ −1 is met; the 43 of −v ≥ 1 stands at 34
missed_blocks : blocking_answer paper missed_normal (zeros 4) (replicate 5 (pos 7)) ≡ Ok (Some 34)
unfolding computing missed missed_table table_in
missed_blocks = refl

pub missed_reason : TrueReason missed_normal (zeros 4) 34
missed_reason = true_reason missed_normal (zeros 4) (replicate 5 (pos 7)) 34 missed_blocks

pub missed_written : WrittenReason missed_table (zeros 4) 34
missed_written = written_reason missed (zeros 4) (zeros 41) (replicate 5 (pos 7)) missed_table missed_read missed_room 34 missed_blocks

-- so no list of any length solves its relaxed task
missed_unsolvable : (list : List ℕ) → Solves relaxed (relaxed_task missed_table) (layer_zero missed_table (zeros 4)) list → ⊥
missed_unsolvable =
    (blocks_unsolvable missed (zeros 4) (zeros 41) (replicate 5 (pos 7)) missed_table missed_read missed_state missed_room missed_layers missed_small).0
    (34, missed_blocks)

missed_came : CameFrom missed_table.task.goal missed_written.blocker.part
unfolding computing missed missed_table table_in minus_one
missed_came =
    record {
      before = [];
      item = minus_one;
      behind = [];
      is = refl;
      low = omega arith;
      high = omega (arith, missed_written.blocker.first.inside);
    }

missed_item : minus_one ≡ missed_written.from.item
unfolding missed_came
missed_item = (came_one missed_table.task.goal missed_written.blocker.part missed_came missed_written.from).1

-- with any goal that still holds v = −1, no list of moves, of any length, solves the table as written
pub missed_goals :
    (g : Block) → In minus_one g → (list : List ℕ) → Solves real (with_goal missed_table.task g) (start_state missed_table (zeros 4)) list → ⊥
missed_goals g stands = missed_written.unsolvable g (subst (λ (i : Item). In i g) missed_item stands)
