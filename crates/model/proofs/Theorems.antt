-- Theorems about the definitions, a room for each subject, in reading order: what a room proves, and its main statements.
--
-- Laws: tests, searches, counts, lists and sets as facts.
--
-- Reading: what the checks of a table and of a state give: an accepted table is the print of its task, which is within every limit, and
-- its marks are where its blocks begin; an accepted state is the bytes of its state; a refusal's number and place; check 7 finds a closed
-- walk exactly where there is one; its edges are the terms of weight not 0; a task looks at its own propositions and variables alone.
--   Accepted.reading_accepted, reading_canonical; States.state_canonical; Circles.no_circle_lem; Edges.edge_means; Agreeing.agree_solves
--
-- Printing: what is written is read back: a task that meets every check is accepted as that task; records and decimal digits too. What a
-- lent output then holds.
--   Tables.print_read_only; ReadBack.plan_read; Outputs.put_first
--
-- NormalForm: the five comparisons, one law an operator; a task and its normal form run alike, and the print of the normal form is accepted;
-- with and without its terms of weight 0 a task has the same normal form, steps and solutions; the calls answer and write the same for
-- tables that differ only in such terms.
--   Comparisons.at_least_rule, above_rule, at_most_rule, below_rule, equal_rule, other_refused; Moves.written_normal;
--   Print.normal_accepted; ZeroTerms.without_normal, without_solves, without_ok, filled_ok; ZeroTables.lean_accepted,
--   lean_normalise_out, lean_step_out, same_answers, filled_accepted
--
-- Layers: layers rise; the outcome is the one layer that is `Reached` or `Exhausted`, within (A + N + 1) × (N + 1); "no plan" is right; what
-- building leaves in memory.
--   Answer.outcome_reached, outcome_exhausted, exhausted_no_plan; Bound.layers_bound; Building.build_unrolled
--
-- Plans: the list of a plan's records solves the relaxed task; each record is the only one of its move in its layer; the wants and the
-- records of each layer.
--   Solving.plan_solves; Records.records_rising, wants_at_down, records_down
--
-- Sizes: every number on the way, and every number of an answer, is small enough for the machine's.
--   Layers.next_size; Plans.targets_small; Answers.plan_small, blocking_small
--
-- Campaigns: the trial campaigns by computation; demand 2 and demand 3 from bytes to answers; the codes of answers.
--   Trials; Demand2.demand2; EndToEnd.demand3; Codes
--
-- Helpful: the set of helpful moves: bit b is set exactly if the sentence of document 02 holds of move b; every move that the plan takes at
-- layer 0 is in it; it is empty exactly with answer layer 0 and "no plan"; a helpful move's conditions hold in the state, from bytes.
--   Meaning.helpful_means; Taken.taken_helpful; NeverEmpty.helpful_empty; Calls.plan_set, found_set, found_steps; Cases
--
-- Blocking: the goal part that blocks: the first part that the last layer does not meet, and where its command stands; the answer, case
-- by case with that of decide; it is the true reason of "no plan", in the normal table and in the written one, from bytes to the answer.
--   Parts.first_unmet_holds, part_print, part_code, offset_one; Calls.blocks_means, blocks_where, nothing_where, refused_where;
--   Reason.last_reachable, first_unreachable, keeping_unreachable; Written.came_from, came_one, keeping_item;
--   EndToEnd.true_reason, written_reason, no_plan_reason, blocks_unsolvable; Cases; Instance
--
-- Pddl: the PDDL text of a table and a state: what stands in it, that its names are declared, how long it is, that the same text comes
-- from the same state, moves and goal, that it shows terms of weight 0, and that each form means what its command means, by PDDL 2.1: the
-- plans of the text are the lists that solve the table.
--   Meaning.condition_true, block_true; Changes.follows_real; Declared.text_declared; Plans.plan_solves; Text.one_text, same_one_text;
--   Sizes.text_size; Calls.text_fits, text_too_long, text_always, same_output, declared, text_plans, no_plan_text;
--   ZeroTerms.one_task, zero_in_move, zero_in_goal, one_table, same_plans; MeaningCases; Cases
--
-- Rewriting: moves that do nothing, and the rewriter of stored tables: lists renumbered and numbered back solve alike, run with real moves
-- and relaxed; what is written is a table that read takes, byte for byte the old one without such moves; its refusals are read's but 16, and
-- every other call refuses a table with such a move with 16, where the first closes; twice is once; normalise never makes a 16, and rewriting
-- and normalising change places; layers, answers, records and helpful moves are the old ones, renumbered; decide's and plan's answers on
-- the new table are right for the old one.
--   Solving.dropped_solves, back_solves, back_again; Accepted.rewrite_right; Refusals.stored_accepts, stored_refuses, never_16;
--   Refused.first_refused, some_refused, still_accepted, read_refused, written_refused, normal_refused; Sizes.byte_for_byte, rewrite_length,
--   rewrote_whole, never_13, answers_no_16; Twice.rewrote_twice, same_output; Normal.either_order, never_makes_16, relaxed_forth_lem, relaxed_back_lem;
--   Layers.same_outcome, same_build; Plans.same_wants, same_records, same_list; Helpful.same_helpful, helpful_back, idle_never;
--   EndToEnd.same_campaign, answers_old; Cases; Instance
-- Assumes nothing.
pub mod Laws
pub mod Reading
pub mod Printing
pub mod NormalForm
pub mod Layers
pub mod Plans
pub mod Sizes
pub mod Campaigns
pub mod Helpful
pub mod Blocking
pub mod Pddl
pub mod Rewriting
