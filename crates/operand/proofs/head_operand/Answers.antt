-- `head_operand` meets its contract: the first of three operands that is out of range.
-- Assumes nothing.
use borrow.Author.Rules.{rules}
use Rattle.model.specs.Limits.{paper, vars_in_range}
use Rattle.model.specs.Command.{width}
use Rattle.model.specs.Seen.{byte_after}
use Rattle.model.specs.Reading.{operands}
use Rattle.operand.specs.Ranges.{wrong_operand, view_at, wrong_first, wrong_later, wrong_none, at_most_no, at_most_yes, through}
use Rattle.operand.proofs.head_operand.Goals as goal

pub overflow_add-at : goal.overflow_add-at
unfolding width
overflow_add-at c = search rules

pub byte-props-requires : goal.byte-props-requires
unfolding width
byte-props-requires c = search rules

pub returns-then-props-gt120 : goal.returns-then-props-gt120
unfolding wrong_operand operands byte_after view_at paper
returns-then-props-gt120 c = wrong_first _ _ _ (at_most_no _ _ _ c.byte-props.ensures.0 c.if-props-gt120.true)

pub overflow_add-at-2 : goal.overflow_add-at-2
unfolding width
overflow_add-at-2 c = search rules

pub byte-vars-requires : goal.byte-vars-requires
unfolding width
byte-vars-requires c = search rules

pub returns-then-not-vars_in_range : goal.returns-then-not-vars_in_range
unfolding wrong_operand operands byte_after view_at paper
returns-then-not-vars_in_range c =
    wrong_later _ _ _ (at_most_yes _ _ _ c.byte-props.ensures.0 c.if-props-gt120.false)
    (wrong_first _ _ _ (through (vars_in_range paper _) c.byte-vars.ensures.0 c.vars_in_range.ensures c.if-not-vars_in_range.true))

pub overflow_add-at-3 : goal.overflow_add-at-3
unfolding width
overflow_add-at-3 c = search rules

pub byte-moves-requires : goal.byte-moves-requires
unfolding width
byte-moves-requires c = search rules

pub returns-then-moves-gt64 : goal.returns-then-moves-gt64
unfolding wrong_operand operands byte_after view_at paper
returns-then-moves-gt64 c =
    wrong_later _ _ _ (at_most_yes _ _ _ c.byte-props.ensures.0 c.if-props-gt120.false)
    (wrong_later _ _ _ (through (vars_in_range paper _) c.byte-vars.ensures.0 c.vars_in_range.ensures c.if-not-vars_in_range.false)
    (wrong_first _ _ _ (at_most_no _ _ _ c.byte-moves.ensures.0 c.if-moves-gt64.true)))

pub returns : goal.returns
unfolding wrong_operand operands byte_after view_at paper
returns c =
    wrong_later _ _ _ (at_most_yes _ _ _ c.byte-props.ensures.0 c.if-props-gt120.false)
    (wrong_later _ _ _ (through (vars_in_range paper _) c.byte-vars.ensures.0 c.vars_in_range.ensures c.if-not-vars_in_range.false)
    (wrong_later _ _ _ (at_most_yes _ _ _ c.byte-moves.ensures.0 c.if-moves-gt64.false) wrong_none))
