-- Demands 2 and 3 at M1, and at a table with terms of weight 0: their premises can be met, with the memories that document 01 names and
-- no more. Assumes nothing.
use Rattle.std.specs.Prelude.{ℕ, zero, suc, ◌≤◌, ◌≡◌, refl, false, [], ◌∷◌, pos, length, replicate}
use Rattle.std.proofs.Math.Option.{some}
use Rattle.std.proofs.Common.{arith, lit≤}
use Rattle.model.specs.Limits.{paper}
use Rattle.model.specs.Task.{written}
use Rattle.model.specs.Reading.{Table, only, reading}
use Rattle.model.specs.Layer.{reported}
use Rattle.model.specs.Memory.{wrong15}
use Rattle.model.specs.Calls.{normal_bytes, normalise_answer, decide_answer, plan_answer, plan_out, records_read}
use Rattle.model.specs.Theorems.Campaigns.Tables.{zeros, m1}
use Rattle.model.specs.Theorems.Campaigns.Computing.{computing}
use Rattle.model.specs.Theorems.Campaigns.Demand2.{normal_part, SameSolutions}
use Rattle.model.proofs.Theorems.Campaigns.Demand2.{demand2}
use Rattle.model.specs.Theorems.Campaigns.Demand3.{relaxed_task, layer_zero, end_of, Given, Answers}
use Rattle.model.proofs.Theorems.Campaigns.EndToEnd.{demand3}
use Rattle.model.specs.Theorems.Campaigns.Instance.{grid_goal, grid_state, m1_table, table_in}

pub m1_small : (u : ℕ) → u ≤ reported (end_of m1_table (zeros 9)) → wrong15 paper (relaxed_task m1_table) (layer_zero m1_table (zeros 9)) u ≡ false
unfolding computing m1 m1_table table_in
m1_small zero h = refl
m1_small (suc zero) h = refl
m1_small (suc (suc zero)) h = refl
m1_small (suc (suc (suc u))) h = absurd (omega arith)

unfoldable pub m1_given : Given m1 (zeros 9) (zeros 85) (replicate 16 (pos 7)) (zeros 30)
unfolding computing m1 m1_table table_in
m1_given =
    record {
      table = m1_table;
      read = refl;
      state = refl;
      normal_room = lit≤ tt;
      layer_room = lit≤ tt;
      plan_room = lit≤ tt;
      small = m1_small;
    }

-- what demand 2 says of M1: the same lists solve it and its 85 bytes
pub m1_demand2 : SameSolutions m1 (zeros 85) m1_given.table
m1_demand2 = demand2 m1 (zeros 85) m1_given.table m1_given.read m1_given.normal_room

-- what demand 3 says of M1
pub m1_demand3 :
    let nb = normal_part m1 (zeros 85) (length (normal_bytes m1_given.table.task)) in
    Answers m1_given.table (zeros 9) (normalise_answer paper m1 (zeros 85)) nb (decide_answer paper nb (zeros 9) (replicate 16 (pos 7)))
    (plan_answer paper nb (zeros 9) (replicate 16 (pos 7)) (zeros 30)) (zeros 30) (plan_out paper nb (zeros 9) (replicate 16 (pos 7)) (zeros 30))
m1_demand3 = demand3 m1 (zeros 9) (zeros 85) (replicate 16 (pos 7)) (zeros 30) m1_given

-- "0 2", "1 4", "2 1": its records, read back from the output
m1_read :
    records_read 3 (plan_out paper (normal_part m1 (zeros 85) 85) (zeros 9) (replicate 16 (pos 7)) (zeros 30))
    ≡ some ((0, 2) ∷ (1, 4) ∷ (2, 1) ∷ [])
unfolding computing m1
m1_read = refl

grid_table : Table
grid_table = table_in (reading paper (only written) grid_goal)

grid_small : (u : ℕ) → u ≤ reported (end_of grid_table grid_state) → wrong15 paper (relaxed_task grid_table) (layer_zero grid_table grid_state) u ≡ false
unfolding computing grid_goal grid_state grid_table table_in
grid_small zero h = refl
grid_small (suc zero) h = refl
grid_small (suc (suc u)) h = absurd (omega arith)

pub grid_given : Given grid_goal grid_state (zeros 39) (replicate 9 (pos 7)) (zeros 10)
unfolding computing grid_goal grid_state grid_table table_in
grid_given =
    record {
      table = grid_table;
      read = refl;
      state = refl;
      normal_room = lit≤ tt;
      layer_room = lit≤ tt;
      plan_room = lit≤ tt;
      small = grid_small;
    }

pub grid_demand2 : SameSolutions grid_goal (zeros 39) grid_given.table
grid_demand2 = demand2 grid_goal (zeros 39) grid_given.table grid_given.read grid_given.normal_room

pub grid_demand3 :
    let nb = normal_part grid_goal (zeros 39) (length (normal_bytes grid_given.table.task)) in
    Answers grid_given.table grid_state (normalise_answer paper grid_goal (zeros 39)) nb (decide_answer paper nb grid_state (replicate 9 (pos 7)))
    (plan_answer paper nb grid_state (replicate 9 (pos 7)) (zeros 10)) (zeros 10) (plan_out paper nb grid_state (replicate 9 (pos 7)) (zeros 10))
grid_demand3 = demand3 grid_goal grid_state (zeros 39) (replicate 9 (pos 7)) (zeros 10) grid_given

-- its one record: move 0 once
grid_read : records_read 1 (plan_out paper (normal_part grid_goal (zeros 39) 39) grid_state (replicate 9 (pos 7)) (zeros 10)) ≡ some ((0, 1) ∷ [])
unfolding computing grid_goal grid_state
grid_read = refl
