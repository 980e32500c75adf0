-- `head_wanted` meets its contract: only a head can be unwanted.
-- Assumes nothing.
use mathlib.Core.Path.{◌≡◌, refl, sym, ◌∙◌}
use mathlib.Core.Bool.{true}
use Rattle.model.specs.Reading.{Wanted, head_wanted}
use Rattle.command.specs.declared.Form.{Form}
use Rattle.command.specs.declared.Command.{Command}
use Rattle.command.specs.declared.Command.TheVariants.{Head, OpenMove, OpenGoal, EndTable, NeedProp, AddProp, DeleteProp, Term, CloseCondition, CloseEffect, Unknown}
use Rattle.command.specs.Names.{command_is}
use Rattle.command.proofs.head_wanted.Goals as goal

-- a command that is no head
no-head : (w : Wanted) (k : Command) → ((f : Form) → k ≡ Head f → ⊥) → true ≡ head_wanted w (command_is k)
unfolding head_wanted command_is
no-head w (Head f) h = absurd (h f refl)
no-head w OpenMove h = refl
no-head w OpenGoal h = refl
no-head w EndTable h = refl
no-head w NeedProp h = refl
no-head w AddProp h = refl
no-head w DeleteProp h = refl
no-head w Term h = refl
no-head w CloseCondition h = refl
no-head w CloseEffect h = refl
no-head w Unknown h = refl

pub returns-in-Head : goal.returns-in-Head
unfolding command_is
returns-in-Head c = c.takes_head.ensures ∙ sym (rw c.in-Head.is refl)

pub returns-in_default : goal.returns-in_default
returns-in_default c = no-head _ _ c.in_default.not-Head
