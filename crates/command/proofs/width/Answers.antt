-- `width` meets its contract, command by command. Assumes nothing.
use Rattle.std.proofs.Common.{◌≡◌, refl}
use mathlib.Core.Logic.{inl, inr}
use Rattle.model.specs.Command.{width}
use Rattle.command.specs.declared.Command.{Command}
use Rattle.command.specs.Names.{command_is}
use Rattle.command.proofs.Patterns.{one_of_three, one_of_four}
use Rattle.command.proofs.width.Goals as goal

pub returns-in-OpenMove : goal.returns-in-OpenMove
unfolding command_is width
returns-in-OpenMove c = one_of_four (λ (k : Command). 1 ≡ width (command_is k)) refl refl refl refl c.in-OpenMove.is

pub returns-in-NeedProp : goal.returns-in-NeedProp
unfolding command_is width
returns-in-NeedProp c = one_of_three (λ (k : Command). 2 ≡ width (command_is k)) refl refl refl c.in-NeedProp.is

pub returns-in-Head : goal.returns-in-Head
unfolding command_is width
returns-in-Head c = elim c.in-Head.is [ inl h ↦ rw h.1 refl | inr e ↦ rw e refl ]

pub returns-in-CloseCondition : goal.returns-in-CloseCondition
unfolding command_is width
returns-in-CloseCondition c = rw c.in-CloseCondition.is refl

pub returns-in-CloseEffect : goal.returns-in-CloseEffect
unfolding command_is width
returns-in-CloseEffect c = rw c.in-CloseEffect.is refl
