-- `term_operand` meets its contract: the first of two operands that is out of range.
-- Assumes nothing.
use mathlib.Core.Path.{◌∙◌}
use borrow.Author.Rules.{rules}
use Rattle.integer.specs.Linear.{back}
use Rattle.model.specs.Limits.{paper, weight_in_range}
use Rattle.model.specs.Command.{width}
use Rattle.model.specs.Seen.{byte_after, number_after}
use Rattle.model.specs.Reading.{operands}
use Rattle.operand.specs.Ranges.{wrong_operand, view_at, wrong_first, wrong_later, wrong_none, below_no, below_yes, through}
use Rattle.operand.proofs.term_operand.Goals as goal

pub overflow_add-at : goal.overflow_add-at
unfolding width
overflow_add-at c = search rules

pub byte-var-requires : goal.byte-var-requires
unfolding width
byte-var-requires c = search rules

pub returns-then-var-vars : goal.returns-then-var-vars
unfolding wrong_operand operands byte_after number_after view_at paper
returns-then-var-vars c = wrong_first _ _ _ (below_no _ _ _ c.byte-var.ensures.0 c.if-var-vars.true)

pub overflow_add-at-2 : goal.overflow_add-at-2
unfolding width
overflow_add-at-2 c = search rules

pub i16_at-weight-requires : goal.i16_at-weight-requires
unfolding width
i16_at-weight-requires c = search rules

pub returns-then-not-weight_in_range : goal.returns-then-not-weight_in_range
unfolding wrong_operand operands byte_after number_after view_at paper
returns-then-not-weight_in_range c =
    wrong_later _ _ _ (below_yes _ _ _ c.byte-var.ensures.0 c.if-var-vars.false)
    (wrong_first _ _ _ (through (weight_in_range paper _) (back _ c.i16_at-weight.type_inv ∙ c.i16_at-weight.ensures.0) c.weight_in_range.ensures c.if-not-weight_in_range.true))

pub returns : goal.returns
unfolding wrong_operand operands byte_after number_after view_at paper
returns c =
    wrong_later _ _ _ (below_yes _ _ _ c.byte-var.ensures.0 c.if-var-vars.false)
    (wrong_later _ _ _ (through (weight_in_range paper _) (back _ c.i16_at-weight.type_inv ∙ c.i16_at-weight.ensures.0) c.weight_in_range.ensures c.if-not-weight_in_range.false)
    wrong_none)
