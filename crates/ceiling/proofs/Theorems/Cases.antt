-- The rig's calls on small tables, by computation; and M1 under the rig's ceiling: the premises of demand 3 can be met there. Assumes nothing.
use Rattle.std.specs.Prelude.{refl, pos, replicate}
use Rattle.ceiling.specs.Ceiling.{rig, read_answer_under, block_refusal_under, normalise_answer_under, step_answer_under, decide_answer_under, decide_memory_under, full, most_vars, beyond, under, reading_under, first_of, behind_of, block_part_under, block_start_under, normalised_under, normalise_out_under, stepped_under, step_out_under, prepared_under, plan_answer_under, plan_memory_under, plan_out_under, campaign_decision_under, campaign_plan_under, campaign_memory_under, campaign_out_under}
use Rattle.model.specs.Theorems.Campaigns.Tables.{zeros, m1}
use Rattle.model.specs.Theorems.Campaigns.Computing.{computing}
use Rattle.model.specs.Theorems.Campaigns.Instance.{m1_table, table_in}
use Rattle.model.proofs.Theorems.Campaigns.Instance.{m1_given}
use Rattle.ceiling.specs.Theorems.EndToEnd.{GivenUnder}
use Rattle.ceiling.specs.Theorems.Fitting.{last_fitting}
use Rattle.ceiling.specs.Theorems.Cases.{RigCases, adding}

pub rig_cases : RigCases
unfolding computing rig full most_vars beyond under reading_under first_of behind_of read_answer_under block_part_under block_start_under block_refusal_under normalised_under normalise_answer_under normalise_out_under stepped_under step_answer_under step_out_under prepared_under decide_answer_under decide_memory_under plan_answer_under plan_memory_under plan_out_under campaign_decision_under campaign_plan_under campaign_memory_under campaign_out_under m1 adding last_fitting
rig_cases =
    record {
      eight = refl;
      nine = refl;
      sixteen = refl;
      eighteen = refl;
      moves16 = refl;
      moves17 = refl;
      circle_first = refl;
      fault_first = refl;
      head_first = refl;
      before_13 = refl;
      before_8 = refl;
      before_10 = refl;
      before_14 = refl;
      fifteen = refl;
      kept_behind = refl;
      largest = refl;
      m1_fits = refl;
    }

-- the premises of demand 3 under the rig's ceiling, met by M1 with the memories that document 01 names and no more
pub m1_under : GivenUnder rig m1 (zeros 9) (zeros 85) (replicate 16 (pos 7)) (zeros 30)
unfolding computing rig full most_vars beyond under reading_under first_of behind_of read_answer_under block_part_under block_start_under block_refusal_under normalised_under normalise_answer_under normalise_out_under stepped_under step_answer_under step_out_under prepared_under decide_answer_under decide_memory_under plan_answer_under plan_memory_under plan_out_under campaign_decision_under campaign_plan_under campaign_memory_under campaign_out_under m1 m1_table table_in m1_given
m1_under = record { given = m1_given; beneath = refl }
