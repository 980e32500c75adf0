-- `put_problem` meets its contract: six stores, one behind the other; the goal's part is that of the last block. Assumes nothing.
use Prim.Native.Nat.{ℕ}
use native.Mathlib.Omega.{arith}
use mathlib.Core.List.{List, ◌++◌}
use Rattle.model.specs.Ascii.{ascii}
use Rattle.model.specs.Move.{State}
use Rattle.model.specs.StateTable.{state_of}
use Rattle.model.specs.Task.{Block}
use Rattle.output.specs.Writing.{Room, written_join, room_first, room_next}
use Rattle.pddl_block.specs.Rows.{condition_rows}
use Rattle.pddl_sum.specs.Names.{each}
use Rattle.pddl_text.specs.Documents.{truth_row, value_row, problem_pieces}
use Rattle.pddl_text.specs.Printable.{few_vars, source, state_long}
use Rattle.reader.specs.Written.{read_task, goal_remaining, block_in}
use Rattle.pddl_text.proofs.put_problem.Goals as goal

-- the texts up to the truths, to the values and to where the goal's conditions begin
abbrev truthful : State → ℕ → List ℕ
truthful s props = ascii "(define (problem start)\n  (:domain campaign)\n  (:init" ++ each (truth_row s) 0 props

abbrev valued : State → ℕ → ℕ → List ℕ
valued s props vars = truthful s props ++ each (value_row s) 0 vars

abbrev opened : State → ℕ → ℕ → List ℕ
opened s props vars = valued s props vars ++ ascii ")\n  (:goal (and"

-- and the room for each
module _ {at : ℕ} (s : State) (props vars : ℕ) (b : Block) (room : Room at (problem_pieces s props vars b)) where
  conditions_room : Room at (opened s props vars ++ condition_rows (ascii "\n    ") b)
  unfolding problem_pieces
  conditions_room = room_first (opened s props vars ++ condition_rows (ascii "\n    ") b) (ascii ")))\n") room

  opened_room : Room at (opened s props vars)
  opened_room = room_first (opened s props vars) (condition_rows (ascii "\n    ") b) conditions_room

  values_room : Room at (valued s props vars)
  values_room = room_first (valued s props vars) (ascii ")\n  (:goal (and") opened_room

  truths_room : Room at (truthful s props)
  truths_room = room_first (truthful s props) (each (value_row s) 0 vars) values_room

pub put_bytes-truths-requires : goal.put_bytes-truths-requires
unfolding ascii
put_bytes-truths-requires c =
    omega (arith, (room_first (ascii "(define (problem start)\n  (:domain campaign)\n  (:init") _ (truths_room _ _ _ _ c.requires.1)).short)

pub put_truths-values-requires : goal.put_truths-values-requires
unfolding ascii
put_truths-values-requires c =
    let k = c.args.blocks.now in
    let truths = each (truth_row (state_of k.props c.args.state.now)) 0 k.props in
    (omega (arith, state_long c.requires.0), room_next truths c.put_bytes-truths.ensures (truths_room _ _ _ _ c.requires.1))

pub put_values-list-requires : goal.put_values-list-requires
unfolding ascii
put_values-list-requires c =
    let k = c.args.blocks.now in
    let values = each (value_row (state_of k.props c.args.state.now)) 0 k.vars in
    let w = written_join c.put_bytes-truths.ensures c.put_truths-values.ensures in
    (state_long c.requires.0, few_vars c.requires.0.read, room_next values w (values_room _ _ _ _ c.requires.1))

pub put_bytes-conditions-requires : goal.put_bytes-conditions-requires
unfolding ascii
put_bytes-conditions-requires c =
    let w = written_join (written_join c.put_bytes-truths.ensures c.put_truths-values.ensures) c.put_values-list.ensures in
    omega (arith, (room_next (ascii ")\n  (:goal (and") w (opened_room _ _ _ _ c.requires.1)).short)

pub part-goal-requires : goal.part-goal-requires
part-goal-requires c = block_in (source c.requires.0) c.args.blocks.now.moves (omega arith)

pub put_conditions-close-requires : goal.put_conditions-close-requires
unfolding ascii
put_conditions-close-requires c =
    let b = (read_task c.args.blocks.now.table.now).goal in
    let w = written_join (written_join c.put_bytes-truths.ensures c.put_truths-values.ensures) c.put_values-list.ensures in
    record {
      block = b;
      remaining = goal_remaining (source c.requires.0) c.part-goal.ensures.0;
      room = room_next (condition_rows (ascii "\n    ") b) (written_join w c.put_bytes-conditions.ensures) (conditions_room _ _ _ _ c.requires.1);
    }

pub put_bytes-requires : goal.put_bytes-requires
unfolding ascii problem_pieces
put_bytes-requires c =
    let w = written_join (written_join c.put_bytes-truths.ensures c.put_truths-values.ensures) c.put_values-list.ensures in
    let conditions = c.put_conditions-close.ensures _ (goal_remaining (source c.requires.0) c.part-goal.ensures.0) in
    omega (arith, (room_next (ascii ")))\n") (written_join (written_join w c.put_bytes-conditions.ensures) conditions) c.requires.1).short)

pub returns : goal.returns
unfolding ascii problem_pieces
returns c =
    let w = written_join (written_join c.put_bytes-truths.ensures c.put_truths-values.ensures) c.put_values-list.ensures in
    let conditions = c.put_conditions-close.ensures _ (goal_remaining (source c.requires.0) c.part-goal.ensures.0) in
    written_join (written_join (written_join w c.put_bytes-conditions.ensures) conditions) c.put_bytes.ensures
