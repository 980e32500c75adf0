-- Theorems about closure days, for any limits where no figure is named. Each of them is proved of the definitions of `Day`, `Placement` and
-- `Placing`, and the contract of `closure::place` carries `Answers.PlaceRight`.
--   Best.place_right: earliest placing gives a placement, in every other one no entry starts earlier and none ends earlier, and the end minute
--   is the last entry's start and its minutes (`Best`); it stops exactly where there is no placement, at the first entry up to which the list
--   has none (`FirstWithout`, stuck_exactly).
--   Checks.right_window, wrong_window_lem, right_duration, wrong_duration_holds: what 18 says, exactly; Answers.answer_right: every answer is right,
--   whatever bytes are lent; Exactly.eighteen_exactly, nineteen_exactly, thirteen_exactly, placed_exactly: which one is given; too_many.
--   Walk.walk_turns: one pass over windows and entries together; Walk.walk_placed, walk_stuck: it makes earliest placing.
--   Starts.start_at: what stands in the output; Codes.place_apart_lem: the answer's numbers can be taken apart; Cases.
-- Assumes nothing.
pub mod Earliest
pub mod Best
pub mod Checks
pub mod Walk
pub mod Starts
pub mod Answers
pub mod Exactly
pub mod Codes
pub mod Cases
