-- `condition_operand` meets its contract: the first of two operands that is out of range.
-- Assumes nothing.
use mathlib.Core.Path.{◌∙◌}
use borrow.Author.Rules.{rules}
use Rattle.integer.specs.Linear.{back}
use Rattle.model.specs.Limits.{paper, comparison_in_range, bound_in_range}
use Rattle.model.specs.Command.{width}
use Rattle.model.specs.Seen.{byte_after, number_after}
use Rattle.model.specs.Reading.{operands}
use Rattle.operand.specs.Ranges.{wrong_operand, view_at, wrong_first, wrong_later, wrong_none, through}
use Rattle.operand.proofs.condition_operand.Goals as goal

pub overflow_add-at : goal.overflow_add-at
unfolding width
overflow_add-at c = search rules

pub byte-comparison-requires : goal.byte-comparison-requires
unfolding width
byte-comparison-requires c = search rules

pub returns-then-not-comparison_in_range : goal.returns-then-not-comparison_in_range
unfolding wrong_operand operands byte_after number_after view_at paper
returns-then-not-comparison_in_range c = wrong_first _ _ _ (through (comparison_in_range _) c.byte-comparison.ensures.0 c.comparison_in_range.ensures c.if-not-comparison_in_range.true)

pub overflow_add-at-2 : goal.overflow_add-at-2
unfolding width
overflow_add-at-2 c = search rules

pub i32_at-bound-requires : goal.i32_at-bound-requires
unfolding width
i32_at-bound-requires c = search rules

pub returns-then-not-bound_in_range : goal.returns-then-not-bound_in_range
unfolding wrong_operand operands byte_after number_after view_at paper
returns-then-not-bound_in_range c =
    wrong_later _ _ _ (through (comparison_in_range _) c.byte-comparison.ensures.0 c.comparison_in_range.ensures c.if-not-comparison_in_range.false)
    (wrong_first _ _ _ (through (bound_in_range paper _) (back _ c.i32_at-bound.type_inv ∙ c.i32_at-bound.ensures.0) c.bound_in_range.ensures c.if-not-bound_in_range.true))

pub returns : goal.returns
unfolding wrong_operand operands byte_after number_after view_at paper
returns c =
    wrong_later _ _ _ (through (comparison_in_range _) c.byte-comparison.ensures.0 c.comparison_in_range.ensures c.if-not-comparison_in_range.false)
    (wrong_later _ _ _ (through (bound_in_range paper _) (back _ c.i32_at-bound.type_inv ∙ c.i32_at-bound.ensures.0) c.bound_in_range.ensures c.if-not-bound_in_range.false)
    wrong_none)
