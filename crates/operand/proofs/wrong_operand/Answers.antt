-- `wrong_operand` meets its contract, command by command.
-- Assumes nothing.
use mathlib.Core.Logic.{inl, inr}
use mathlib.Core.Path.{refl, sym, ◌∙◌}
use Rattle.model.specs.Command.{width}
use Rattle.model.specs.Seen.{byte_after, number_after}
use Rattle.model.specs.Reading.{operands, first_wrong}
use Rattle.command.specs.Names.{command_is}
use Rattle.operand.specs.Ranges.{wrong_operand, view_at, offset_of}
use Rattle.operand.proofs.wrong_operand.Goals as goal

pub head_operand-requires : goal.head_operand-requires
unfolding width command_is
head_operand-requires c = rw c.in-Head.is at c.requires

pub prop_operand-requires : goal.prop_operand-requires
unfolding width command_is
prop_operand-requires c = elim c.in-NeedProp.is [ inl e ↦ rw e at c.requires | inr (inl e) ↦ rw e at c.requires | inr (inr e) ↦ rw e at c.requires ]

pub term_operand-requires : goal.term_operand-requires
unfolding width command_is
term_operand-requires c = rw c.in-Term.is at c.requires

pub condition_operand-requires : goal.condition_operand-requires
unfolding width command_is
condition_operand-requires c = rw c.in-CloseCondition.is at c.requires

pub effect_operand-requires : goal.effect_operand-requires
unfolding width command_is
effect_operand-requires c = rw c.in-CloseEffect.is at c.requires

pub returns-in-Head : goal.returns-in-Head
unfolding command_is wrong_operand operands byte_after number_after view_at
returns-in-Head c = c.head_operand.ensures ∙ sym (rw c.in-Head.is refl)

pub returns-in-NeedProp : goal.returns-in-NeedProp
unfolding command_is wrong_operand operands byte_after number_after view_at
returns-in-NeedProp c =
    elim c.in-NeedProp.is [
      | inl e ↦ c.prop_operand.ensures ∙ sym (rw e refl)
      | inr (inl e) ↦ c.prop_operand.ensures ∙ sym (rw e refl)
      | inr (inr e) ↦ c.prop_operand.ensures ∙ sym (rw e refl)
    ]

pub returns-in-Term : goal.returns-in-Term
unfolding command_is wrong_operand operands byte_after number_after view_at
returns-in-Term c = c.term_operand.ensures ∙ sym (rw c.in-Term.is refl)

pub returns-in-CloseCondition : goal.returns-in-CloseCondition
unfolding command_is wrong_operand operands byte_after number_after view_at
returns-in-CloseCondition c = c.condition_operand.ensures ∙ sym (rw c.in-CloseCondition.is refl)

pub returns-in-CloseEffect : goal.returns-in-CloseEffect
unfolding command_is wrong_operand operands byte_after number_after view_at
returns-in-CloseEffect c = c.effect_operand.ensures ∙ sym (rw c.in-CloseEffect.is refl)

pub returns-in-OpenMove : goal.returns-in-OpenMove
unfolding command_is wrong_operand operands byte_after number_after view_at offset_of first_wrong
returns-in-OpenMove c =
    elim c.in-OpenMove.is [
      | inl e ↦ rw e refl
      | inr (inl e) ↦ rw e refl
      | inr (inr (inl e)) ↦ rw e refl
      | inr (inr (inr e)) ↦ rw e refl
    ]
