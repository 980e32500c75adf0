-- Every definition on the way from a table's bytes to an answer, by one name: `unfolding computing` lets closed cases compute.
-- Assumes nothing.
use Rattle.integer.specs.Linear.{larger}
use Rattle.integer.specs.Ceiling.{ceiling}
use Rattle.integer.specs.BigEndian.{unsigned, bytes, twos, half, signed, residue, signed_bytes}
use Rattle.model.specs.Limits.{paper, vars_in_range, weight_in_range, comparison_in_range, kind_in_range, base_in_range, bound_in_range}
use Rattle.model.specs.Lists.{all, any, all_below, any_below, first_from, tabulate, fold_below}
use Rattle.model.specs.Task.{kept, is_add, is_delete, adds, deletes, effect_on, clashes, terms_of, changes, active}
use Rattle.model.specs.Move.{sum, compares, holds, applicable, value, changed, changed_by, real, relaxed, move_at}
use Rattle.model.specs.Layer.{plus, times, layer_sum, reaches, highest, holds_in, usable, layer_value, offer, offered, gained, raised, next, layer_of, layer, same_value, same_layer, layer_at, meets_goal, settled, reported, bound, outcome, stops, outcome_at, first_stop}
use Rattle.model.specs.Plan.{no_wants, raise_target, want_prop, want_value, low_value, low, want_finite, want_sum, want_item, want_block, counted, adder, take_adder, demand, achieves, achiever, step_size, runs, take_effect, take_achiever, carried_target, carried, take_prop, take_target, take_value, descend, layer_records, records_from, records, plan_list, wants_below, wants_at, reaches_new, supports, helpful, set_of, helpful_moves, lowest_unbounded, rest_terms, want_quotient}
use Rattle.model.specs.NormalForm.{negated, signed_term, signed_sum, least, normal_condition, mirrored, normal_effect, normal_item, normal_block, normal_task, normal_state}
use Rattle.model.specs.Circle.{is_assign, item_edge, edge, walk_to, circular}
use Rattle.model.specs.Command.{code_of, commands, with_code, command_of, width, comparison_code, kind_code, term_bytes, item_bytes, items_bytes, moves_bytes, task_bytes, in_place, after_term, may_stand_in}
use Rattle.model.specs.Seen.{nothing_seen, byte_after, number_after, comparison_of, kind_of, term_at, item_at, closed, with_head, with_mark, with_term, with_item, advance}
use Rattle.model.specs.Reading.{head_wanted, leaves_open, wrong3, wrong2, opened, wrong6, operands, first_wrong, named_again, wrong5, refused_at, refused_operand, first_refusal, refusal, table_of, verdict_of, at_end, step_with, read_command, continue, read_from, length_limit, reading, checks16, idle, wrong16}
use Rattle.model.specs.StateTable.{value_offset, state_value, state_of, value_in_range, refused_value, refused_byte, state_refusal, truth_byte, values_bytes, state_bytes}
use Rattle.model.specs.Memory.{encode, entry, prop_entry, move_entry, rows, layer_memory, overwrite, room, too_large, wrong15, wrong14, stop_number, stop_at, build, built_memory}
use Rattle.model.specs.Calls.{read_of, read_answer, part_of, start_of, no_block, block_part, block_start, block_refusal, fitted, write_answer, output_after, normal_bytes, normal_of, normalised, normalise_answer, normalise_out, result_of, moved, step_with_state, step_of, stepped, step_answer, step_out, ready_with, ready_of, prepared, decided, decide_of, decide_answer, memory_of, decide_memory, record_bytes, records_read, plan_records, planned, plan_fitted, plan_of, plan_answer, plan_memory, plan_out_of, plan_out, on_output}
use Rattle.model.specs.Blocking.{goal_part, first_unmet, before_part, part_offset, unmet_answer, blocked, blocking_of, blocking_answer, blocking_memory}
use Rattle.model.specs.Listing.{listing_layers, listing_bytes, digits, decimal, plan_word, layers_word, no_plan_word, refusal_word, place_word, space, newline, refusal_text, records_text, ready_text, listing, answer_text}
use Rattle.model.specs.Ascii.{ascii}
use Rattle.model.specs.Pddl.{number_text, atom_text, head_text, expression_text, comparison_text, formula_text, kind_text, change_text, lines, action_text, declarations, domain_text, fact_text, problem_text, sum_of, compare_of, alter_of, formulas_of, changes_of, action_of, actions_from, domain_of, truths, values, problem_of, task_text, text_with_state, text_of, pddl_text, pddl_answer, pddl_out}

unfoldable pub computing : Unit {0}
unfolding larger ceiling unsigned bytes twos half signed residue signed_bytes paper all any all_below any_below first_from tabulate fold_below kept is_add is_delete adds deletes effect_on changes active clashes sum compares holds applicable value changed changed_by real relaxed move_at plus times layer_sum reaches highest holds_in usable layer_value offer offered gained raised next layer_of layer same_value same_layer layer_at meets_goal settled reported bound outcome no_wants raise_target want_prop want_value low_value low want_finite want_sum want_item want_block counted adder take_adder demand achieves achiever step_size runs take_effect take_achiever carried_target carried take_prop take_target take_value descend layer_records records_from records plan_list wants_below wants_at reaches_new supports helpful set_of helpful_moves negated signed_term signed_sum least normal_condition mirrored normal_effect normal_item normal_block normal_task normal_state is_assign item_edge edge walk_to circular code_of commands with_code command_of width may_stand_in after_term comparison_code kind_code term_bytes item_bytes items_bytes moves_bytes task_bytes nothing_seen byte_after number_after comparison_of kind_of term_at item_at in_place head_wanted leaves_open wrong3 wrong2 opened wrong6 checks16 idle wrong16 vars_in_range weight_in_range comparison_in_range kind_in_range base_in_range bound_in_range operands first_wrong named_again wrong5 refused_at refused_operand first_refusal refusal closed with_head with_mark with_term with_item advance table_of verdict_of at_end step_with read_command continue read_from length_limit reading value_offset state_value state_of value_in_range refused_value refused_byte state_refusal truth_byte values_bytes state_bytes encode entry prop_entry move_entry rows layer_memory overwrite room too_large wrong15 wrong14 stop_number stop_at build built_memory read_of read_answer part_of start_of no_block block_part block_start block_refusal fitted write_answer output_after normal_bytes normal_of normalised normalise_answer normalise_out result_of moved step_with_state step_of stepped step_answer step_out ready_with ready_of prepared decided decide_of decide_answer memory_of decide_memory record_bytes records_read plan_records planned plan_fitted plan_of plan_answer plan_memory plan_out_of plan_out listing_layers listing_bytes digits decimal plan_word layers_word no_plan_word refusal_word place_word space newline refusal_text records_text ready_text listing stops outcome_at first_stop lowest_unbounded rest_terms want_quotient on_output answer_text ascii number_text atom_text head_text expression_text comparison_text formula_text kind_text change_text lines action_text declarations domain_text fact_text problem_text sum_of compare_of alter_of formulas_of changes_of action_of actions_from domain_of truths values problem_of task_text text_with_state text_of pddl_text pddl_answer pddl_out terms_of goal_part first_unmet before_part part_offset unmet_answer blocked blocking_of blocking_answer blocking_memory
computing = tt
