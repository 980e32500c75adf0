-- `advance` meets its contract: one law for each command.
-- Assumes nothing.
use Prim.Native.Nat.{◌+◌, ◌≤◌}
use native.Mathlib.Omega.{arith}
use lib.ListN.{length}
use mathlib.Core.Logic.{inl, inr}
use Rattle.model.specs.Command.{head, open_move, open_goal, end_table, need_prop, add_prop, delete_prop, term, close_condition, close_effect, unknown, width}
use Rattle.command.specs.Names.{form_of, command_is}
use Rattle.cursor.specs.State.{Passed}
use Rattle.cursor.proofs.Passing.{need_range, add_range, delete_range, effect_range}
use Rattle.advance.specs.Blocks.{mark_room, opened_most, advance_head, advance_move, advance_goal, advance_end, advance_unknown}
use Rattle.advance.specs.Items.{advance_need, advance_add, advance_delete, advance_condition, advance_effect}
use Rattle.advance.specs.Terms.{advance_term}
use Rattle.advance.proofs.advance.Goals as goal

pub byte-props-requires : goal.byte-props-requires
unfolding command_is width
byte-props-requires c =
    let passed0 : Passed c.args.table.now c.args.c c.args.named.now.needed c.args.named.now.changed c.args.named.now.affected (head (form_of c.in-Head.form)) = rw c.in-Head.is at c.requires.1 in
    let uncut0 : c.args.c.at + 4 ≤ length c.args.table.now = (passed0).uncut in
    omega (arith, uncut0)

pub byte-vars-requires : goal.byte-vars-requires
unfolding command_is width
byte-vars-requires c =
    let passed0 : Passed c.args.table.now c.args.c c.args.named.now.needed c.args.named.now.changed c.args.named.now.affected (head (form_of c.in-Head.form)) = rw c.in-Head.is at c.requires.1 in
    let uncut0 : c.args.c.at + 4 ≤ length c.args.table.now = (passed0).uncut in
    omega (arith, uncut0)

pub byte-moves-requires : goal.byte-moves-requires
unfolding command_is width
byte-moves-requires c =
    let passed0 : Passed c.args.table.now c.args.c c.args.named.now.needed c.args.named.now.changed c.args.named.now.affected (head (form_of c.in-Head.form)) = rw c.in-Head.is at c.requires.1 in
    let uncut0 : c.args.c.at + 4 ≤ length c.args.table.now = (passed0).uncut in
    omega (arith, uncut0)

pub offset_bounds-marks-c : goal.offset_bounds-marks-c
unfolding command_is
offset_bounds-marks-c c =
    let passed1 : Passed c.args.table.now c.args.c c.args.named.now.needed c.args.named.now.changed c.args.named.now.affected open_move = rw c.in-OpenMove.is at c.requires.1 in
    omega (arith, mark_room open_move c.requires.0 (passed1).placed)

pub bounds-marks-c : goal.bounds-marks-c
unfolding command_is
bounds-marks-c c =
    let passed1 : Passed c.args.table.now c.args.c c.args.named.now.needed c.args.named.now.changed c.args.named.now.affected open_move = rw c.in-OpenMove.is at c.requires.1 in
    mark_room open_move c.requires.0 (passed1).placed

pub overflow_add-c : goal.overflow_add-c
overflow_add-c c = omega (arith, opened_most c.requires.0)

pub with_mark-requires : goal.with_mark-requires
unfolding command_is width
with_mark-requires c =
    let passed1 : Passed c.args.table.now c.args.c c.args.named.now.needed c.args.named.now.changed c.args.named.now.affected open_move = rw c.in-OpenMove.is at c.requires.1 in
    let uncut1 : c.args.c.at + 1 ≤ length c.args.table.now = (passed1).uncut in
    (omega (arith, uncut1), omega (arith, mark_room open_move c.requires.0 (passed1).placed))

pub offset_bounds-marks-c-in-OpenGoal : goal.offset_bounds-marks-c-in-OpenGoal
unfolding command_is
offset_bounds-marks-c-in-OpenGoal c =
    let passed2 : Passed c.args.table.now c.args.c c.args.named.now.needed c.args.named.now.changed c.args.named.now.affected open_goal = rw c.in-OpenGoal.is at c.requires.1 in
    omega (arith, mark_room open_goal c.requires.0 (passed2).placed)

pub bounds-marks-c-in-OpenGoal : goal.bounds-marks-c-in-OpenGoal
unfolding command_is
bounds-marks-c-in-OpenGoal c =
    let passed2 : Passed c.args.table.now c.args.c c.args.named.now.needed c.args.named.now.changed c.args.named.now.affected open_goal = rw c.in-OpenGoal.is at c.requires.1 in
    mark_room open_goal c.requires.0 (passed2).placed

pub with_mark-requires-in-OpenGoal : goal.with_mark-requires-in-OpenGoal
unfolding command_is width
with_mark-requires-in-OpenGoal c =
    let passed2 : Passed c.args.table.now c.args.c c.args.named.now.needed c.args.named.now.changed c.args.named.now.affected open_goal = rw c.in-OpenGoal.is at c.requires.1 in
    let uncut2 : c.args.c.at + 1 ≤ length c.args.table.now = (passed2).uncut in
    (omega (arith, uncut2), omega (arith, mark_room open_goal c.requires.0 (passed2).placed))

pub offset_bounds-marks-c-in-EndTable : goal.offset_bounds-marks-c-in-EndTable
unfolding command_is
offset_bounds-marks-c-in-EndTable c =
    let passed3 : Passed c.args.table.now c.args.c c.args.named.now.needed c.args.named.now.changed c.args.named.now.affected end_table = rw c.in-EndTable.is at c.requires.1 in
    omega (arith, mark_room end_table c.requires.0 (passed3).placed)

pub bounds-marks-c-in-EndTable : goal.bounds-marks-c-in-EndTable
unfolding command_is
bounds-marks-c-in-EndTable c =
    let passed3 : Passed c.args.table.now c.args.c c.args.named.now.needed c.args.named.now.changed c.args.named.now.affected end_table = rw c.in-EndTable.is at c.requires.1 in
    mark_room end_table c.requires.0 (passed3).placed

pub with_mark-requires-in-EndTable : goal.with_mark-requires-in-EndTable
unfolding command_is width
with_mark-requires-in-EndTable c =
    let passed3 : Passed c.args.table.now c.args.c c.args.named.now.needed c.args.named.now.changed c.args.named.now.affected end_table = rw c.in-EndTable.is at c.requires.1 in
    let uncut3 : c.args.c.at + 1 ≤ length c.args.table.now = (passed3).uncut in
    (omega (arith, uncut3), omega (arith, mark_room end_table c.requires.0 (passed3).placed))

pub byte-prop-requires : goal.byte-prop-requires
unfolding command_is width
byte-prop-requires c =
    let passed4 : Passed c.args.table.now c.args.c c.args.named.now.needed c.args.named.now.changed c.args.named.now.affected need_prop = rw c.in-NeedProp.is at c.requires.1 in
    let uncut4 : c.args.c.at + 2 ≤ length c.args.table.now = (passed4).uncut in
    omega (arith, uncut4)

pub bounds-named-prop : goal.bounds-named-prop
unfolding command_is
bounds-named-prop c =
    let passed4 : Passed c.args.table.now c.args.c c.args.named.now.needed c.args.named.now.changed c.args.named.now.affected need_prop = rw c.in-NeedProp.is at c.requires.1 in
    omega (arith, need_range c.args.table.now c.args.c (passed4).ranged, c.byte-prop.ensures.0, c.requires.0.props)

pub byte-prop-requires-in-AddProp : goal.byte-prop-requires-in-AddProp
unfolding command_is width
byte-prop-requires-in-AddProp c =
    elim c.in-AddProp.is [
      | inl e ↦
          let added : Passed c.args.table.now c.args.c c.args.named.now.needed c.args.named.now.changed c.args.named.now.affected add_prop = rw e at c.requires.1 in
          omega (arith, added.uncut)
      | inr e ↦
          let deleted : Passed c.args.table.now c.args.c c.args.named.now.needed c.args.named.now.changed c.args.named.now.affected delete_prop = rw e at c.requires.1 in
          omega (arith, deleted.uncut)
    ]

pub bounds-named-prop-in-AddProp : goal.bounds-named-prop-in-AddProp
unfolding command_is
bounds-named-prop-in-AddProp c =
    elim c.in-AddProp.is [
      | inl e ↦
          let added : Passed c.args.table.now c.args.c c.args.named.now.needed c.args.named.now.changed c.args.named.now.affected add_prop = rw e at c.requires.1 in
          omega (arith, add_range c.args.table.now c.args.c added.ranged, c.byte-prop-in-AddProp.ensures.0, c.requires.0.props)
      | inr e ↦
          let deleted : Passed c.args.table.now c.args.c c.args.named.now.needed c.args.named.now.changed c.args.named.now.affected delete_prop = rw e at c.requires.1 in
          omega (arith, delete_range c.args.table.now c.args.c deleted.ranged, c.byte-prop-in-AddProp.ensures.0, c.requires.0.props)
    ]

pub byte-requires : goal.byte-requires
unfolding command_is width
byte-requires c =
    let passed7 : Passed c.args.table.now c.args.c c.args.named.now.needed c.args.named.now.changed c.args.named.now.affected term = rw c.in-Term.is at c.requires.1 in
    let uncut7 : c.args.c.at + 4 ≤ length c.args.table.now = (passed7).uncut in
    omega (arith, uncut7)

pub byte-kind-requires : goal.byte-kind-requires
unfolding command_is width
byte-kind-requires c =
    let passed9 : Passed c.args.table.now c.args.c c.args.named.now.needed c.args.named.now.changed c.args.named.now.affected close_effect = rw c.in-CloseEffect.is at c.requires.1 in
    let uncut9 : c.args.c.at + 7 ≤ length c.args.table.now = (passed9).uncut in
    omega (arith, uncut9)

pub byte-var-requires : goal.byte-var-requires
unfolding command_is width
byte-var-requires c =
    let passed9 : Passed c.args.table.now c.args.c c.args.named.now.needed c.args.named.now.changed c.args.named.now.affected close_effect = rw c.in-CloseEffect.is at c.requires.1 in
    let uncut9 : c.args.c.at + 7 ≤ length c.args.table.now = (passed9).uncut in
    omega (arith, uncut9)

pub draw-requires : goal.draw-requires
unfolding command_is
draw-requires c =
    let passed9 : Passed c.args.table.now c.args.c c.args.named.now.needed c.args.named.now.changed c.args.named.now.affected close_effect = rw c.in-CloseEffect.is at c.requires.1 in
    (omega (arith, c.requires.0.behind, c.requires.0.inside), omega (arith, effect_range c.args.table.now c.args.c (passed9).ranged, c.byte-var.ensures.0, c.requires.0.vars), c.requires.0.sources)

pub bounds-named-var : goal.bounds-named-var
unfolding command_is
bounds-named-var c =
    let passed9 : Passed c.args.table.now c.args.c c.args.named.now.needed c.args.named.now.changed c.args.named.now.affected close_effect = rw c.in-CloseEffect.is at c.requires.1 in
    omega (arith, effect_range c.args.table.now c.args.c (passed9).ranged, c.byte-var.ensures.0, c.requires.0.vars)

pub returns-in-Head : goal.returns-in-Head
unfolding command_is
returns-in-Head c =
    let passed0 : Passed c.args.table.now c.args.c c.args.named.now.needed c.args.named.now.changed c.args.named.now.affected (head (form_of c.in-Head.form)) = rw c.in-Head.is at c.requires.1 in
    rw c.in-Head.is (advance_head c.requires.0 _ _ _ _ (passed0) c.byte-props.ensures.0 c.byte-vars.ensures.0 c.byte-moves.ensures.0 c.with_head.ensures)

pub returns-in-OpenMove : goal.returns-in-OpenMove
unfolding command_is
returns-in-OpenMove c =
    let passed1 : Passed c.args.table.now c.args.c c.args.named.now.needed c.args.named.now.changed c.args.named.now.affected open_move = rw c.in-OpenMove.is at c.requires.1 in
    rw c.in-OpenMove.is (advance_move c.requires.0 (passed1) c.with_mark.ensures)

pub returns-in-OpenGoal : goal.returns-in-OpenGoal
unfolding command_is
returns-in-OpenGoal c =
    let passed2 : Passed c.args.table.now c.args.c c.args.named.now.needed c.args.named.now.changed c.args.named.now.affected open_goal = rw c.in-OpenGoal.is at c.requires.1 in
    rw c.in-OpenGoal.is (advance_goal c.requires.0 (passed2) c.with_mark-in-OpenGoal.ensures)

pub returns-in-EndTable : goal.returns-in-EndTable
unfolding command_is
returns-in-EndTable c =
    let passed3 : Passed c.args.table.now c.args.c c.args.named.now.needed c.args.named.now.changed c.args.named.now.affected end_table = rw c.in-EndTable.is at c.requires.1 in
    rw c.in-EndTable.is (advance_end c.requires.0 (passed3) c.with_mark-in-EndTable.ensures)

pub returns-in-NeedProp : goal.returns-in-NeedProp
unfolding command_is width
returns-in-NeedProp c =
    let passed4 : Passed c.args.table.now c.args.c c.args.named.now.needed c.args.named.now.changed c.args.named.now.affected need_prop = rw c.in-NeedProp.is at c.requires.1 in
    rw c.in-NeedProp.is (advance_need c.requires.0 _ (passed4) c.byte-prop.ensures.0 c.with_item.ensures)

pub returns-in-AddProp : goal.returns-in-AddProp
unfolding command_is width
returns-in-AddProp c =
    elim c.in-AddProp.is [
      | inl e ↦
          let added : Passed c.args.table.now c.args.c c.args.named.now.needed c.args.named.now.changed c.args.named.now.affected add_prop = rw e at c.requires.1 in
          rw e (advance_add c.requires.0 _ added c.byte-prop-in-AddProp.ensures.0 c.with_item-in-AddProp.ensures)
      | inr e ↦
          let deleted : Passed c.args.table.now c.args.c c.args.named.now.needed c.args.named.now.changed c.args.named.now.affected delete_prop = rw e at c.requires.1 in
          rw e (advance_delete c.requires.0 _ deleted c.byte-prop-in-AddProp.ensures.0 c.with_item-in-AddProp.ensures)
    ]

pub returns-in-Term : goal.returns-in-Term
unfolding command_is
returns-in-Term c =
    let passed7 : Passed c.args.table.now c.args.c c.args.named.now.needed c.args.named.now.changed c.args.named.now.affected term = rw c.in-Term.is at c.requires.1 in
    rw c.in-Term.is (advance_term c.requires.0 _ (passed7) c.byte.ensures.0 c.with_term.ensures)

pub returns-in-CloseCondition : goal.returns-in-CloseCondition
unfolding command_is width
returns-in-CloseCondition c =
    let passed8 : Passed c.args.table.now c.args.c c.args.named.now.needed c.args.named.now.changed c.args.named.now.affected close_condition = rw c.in-CloseCondition.is at c.requires.1 in
    rw c.in-CloseCondition.is (advance_condition c.requires.0 (passed8) c.with_item-in-CloseCondition.ensures)

pub returns-in-CloseEffect : goal.returns-in-CloseEffect
unfolding command_is width
returns-in-CloseEffect c =
    let passed9 : Passed c.args.table.now c.args.c c.args.named.now.needed c.args.named.now.changed c.args.named.now.affected close_effect = rw c.in-CloseEffect.is at c.requires.1 in
    rw c.in-CloseEffect.is (advance_effect c.requires.0 _ _ (passed9) c.byte-kind.ensures.0 c.byte-var.ensures.0 c.draw.ensures c.with_item-in-CloseEffect.ensures)

pub returns-in-Unknown : goal.returns-in-Unknown
unfolding command_is
returns-in-Unknown c =
    let passed10 : Passed c.args.table.now c.args.c c.args.named.now.needed c.args.named.now.changed c.args.named.now.affected unknown = rw c.in-Unknown.is at c.requires.1 in
    advance_unknown (passed10)
