-- `prop_operand` meets its contract.
-- Assumes nothing.
use borrow.Author.Rules.{rules}
use Rattle.model.specs.Limits.{paper}
use Rattle.model.specs.Command.{width}
use Rattle.model.specs.Seen.{byte_after, number_after}
use Rattle.model.specs.Reading.{operands}
use Rattle.operand.specs.Ranges.{wrong_operand, view_at, wrong_first, wrong_later, wrong_none, below_no, below_yes}
use Rattle.operand.proofs.prop_operand.Goals as goal

pub overflow_add-at : goal.overflow_add-at
unfolding width
overflow_add-at c = search rules

pub byte-prop-requires : goal.byte-prop-requires
unfolding width
byte-prop-requires c = search rules

pub returns-then-prop-props : goal.returns-then-prop-props
unfolding wrong_operand operands byte_after number_after view_at paper
returns-then-prop-props c = wrong_first _ _ _ (below_no _ _ _ c.byte-prop.ensures.0 c.if-prop-props.true)

pub returns : goal.returns
unfolding wrong_operand operands byte_after number_after view_at paper
returns c = wrong_later _ _ _ (below_yes _ _ _ c.byte-prop.ensures.0 c.if-prop-props.false) wrong_none
