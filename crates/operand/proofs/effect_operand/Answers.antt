-- `effect_operand` meets its contract: the first of three operands that is out of range.
-- Assumes nothing.
use mathlib.Core.Path.{◌∙◌}
use borrow.Author.Rules.{rules}
use Rattle.integer.specs.Linear.{back}
use Rattle.model.specs.Limits.{paper, kind_in_range, base_in_range}
use Rattle.model.specs.Command.{width}
use Rattle.model.specs.Seen.{byte_after, number_after}
use Rattle.model.specs.Reading.{operands}
use Rattle.operand.specs.Ranges.{wrong_operand, view_at, wrong_first, wrong_later, wrong_none, below_no, below_yes, through}
use Rattle.operand.proofs.effect_operand.Goals as goal

pub overflow_add-at : goal.overflow_add-at
unfolding width
overflow_add-at c = search rules

pub byte-kind-requires : goal.byte-kind-requires
unfolding width
byte-kind-requires c = search rules

pub returns-then-not-kind_in_range : goal.returns-then-not-kind_in_range
unfolding wrong_operand operands byte_after number_after view_at paper
returns-then-not-kind_in_range c = wrong_first _ _ _ (through (kind_in_range _) c.byte-kind.ensures.0 c.kind_in_range.ensures c.if-not-kind_in_range.true)

pub overflow_add-at-2 : goal.overflow_add-at-2
unfolding width
overflow_add-at-2 c = search rules

pub byte-var-requires : goal.byte-var-requires
unfolding width
byte-var-requires c = search rules

pub returns-then-var-vars : goal.returns-then-var-vars
unfolding wrong_operand operands byte_after number_after view_at paper
returns-then-var-vars c =
    wrong_later _ _ _ (through (kind_in_range _) c.byte-kind.ensures.0 c.kind_in_range.ensures c.if-not-kind_in_range.false)
    (wrong_first _ _ _ (below_no _ _ _ c.byte-var.ensures.0 c.if-var-vars.true))

pub overflow_add-at-3 : goal.overflow_add-at-3
unfolding width
overflow_add-at-3 c = search rules

pub i32_at-base-requires : goal.i32_at-base-requires
unfolding width
i32_at-base-requires c = search rules

pub returns-then-not-base_in_range : goal.returns-then-not-base_in_range
unfolding wrong_operand operands byte_after number_after view_at paper
returns-then-not-base_in_range c =
    wrong_later _ _ _ (through (kind_in_range _) c.byte-kind.ensures.0 c.kind_in_range.ensures c.if-not-kind_in_range.false)
    (wrong_later _ _ _ (below_yes _ _ _ c.byte-var.ensures.0 c.if-var-vars.false)
    (wrong_first _ _ _ (through (base_in_range paper) (back _ c.i32_at-base.type_inv ∙ c.i32_at-base.ensures.0) c.base_in_range.ensures c.if-not-base_in_range.true)))

pub returns : goal.returns
unfolding wrong_operand operands byte_after number_after view_at paper
returns c =
    wrong_later _ _ _ (through (kind_in_range _) c.byte-kind.ensures.0 c.kind_in_range.ensures c.if-not-kind_in_range.false)
    (wrong_later _ _ _ (below_yes _ _ _ c.byte-var.ensures.0 c.if-var-vars.false)
    (wrong_later _ _ _ (through (base_in_range paper) (back _ c.i32_at-base.type_inv ∙ c.i32_at-base.ensures.0) c.base_in_range.ensures c.if-not-base_in_range.false)
    wrong_none))
