-- Theorems about the calls under a ceiling, for every ceiling: within it they answer and leave what the full calls do on the numbers that it
-- allows, and wherever these are enough what they do on the whole memory; beyond it they answer 17, exactly there, and keep every memory; the
-- full ceiling is none; demand 3 for every table that 17 does not refuse, in one call too, and the bound; the sizes and the codes of answers; how
-- many layers fit, and what that makes of the rig's board (this last for the rig's ceiling alone).
--   Calls.same_reading, same_writing, same_planning, memory_kept, turned_reading, turned_writing, turned_planning, seventeen_exactly;
--   Full.full_refuses_none, full_is_none; Campaign.same_campaign, turned_campaign; EndToEnd.demand3_under, given_under, promise_under,
--   decide_within_under, plan_within_under; Codes.codes_apart; Fitting.fits_exactly, first_unfitting; Board.holds_118, rig_decide_layers,
--   rig_plan_layers, rig_campaign_layers, rig_decide_14, rig_plan_14, rig_plan_13; Longer.same_but_14, campaign_but_14; Cases
-- Assumes nothing.
pub mod Used
pub mod Calls
pub mod Full
pub mod Campaign
pub mod EndToEnd
pub mod Sizes
pub mod Codes
pub mod Fitting
pub mod Board
pub mod Longer
pub mod Cases
