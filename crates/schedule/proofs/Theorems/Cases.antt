-- Lists checked from their bytes, computed: M1 of document 01, and a table whose values can leave the range and come back. Assumes nothing.
use Rattle.std.specs.Prelude.{refl}
use Rattle.model.specs.Theorems.Campaigns.Tables.{m1, m1_normal, empty_goal}
use Rattle.model.specs.Theorems.Campaigns.Computing.{computing}
use Rattle.schedule.specs.Check.{range_fault, block_fault, fault_of, goal_tested, check_move, check_from, reply_of, check_state, check_table, fitted_reply, checking, reply_answer, reply_out, check_answer, check_out}
use Rattle.schedule.specs.Theorems.Cases.{CheckCases, swing}

pub check_cases : CheckCases
unfolding computing m1 m1_normal empty_goal swing range_fault block_fault fault_of goal_tested check_move check_from reply_of check_state check_table fitted_reply checking reply_answer reply_out check_answer check_out
check_cases =
    record {
      said = refl;
      ended = refl;
      not_met = refl;
      kept = refl;
      at_start = refl;
      on_the_way = refl;
      missing = refl;
      not_allowed = refl;
      out_of_range = refl;
      not_forgiven = refl;
      at_the_edge = refl;
      short = refl;
      list_first = refl;
      goal_first = refl;
      normal_table_lem = refl;
      state_length = refl;
      state_byte = refl;
      nothing = refl;
    }
