-- `closes_idle` meets its contract: check 16 concerns 41 and 47 alone.
-- Assumes nothing.
use mathlib.Core.Path.{◌≡◌, refl, ◌∙◌}
use mathlib.Core.Bool.{Bool, false}
use Rattle.model.specs.Command as model
use Rattle.model.specs.Reading.{Wanted}
use Rattle.command.specs.declared.Command.{Command}
use Rattle.command.specs.declared.Command.TheVariants.{Head, OpenMove, OpenGoal, EndTable, NeedProp, AddProp, DeleteProp, Term, CloseCondition, CloseEffect, Unknown}
use Rattle.command.specs.Names.{command_is, place_of, wanted_of}
use Rattle.command.specs.Checks.{unfinished, closes_idle}
use Rattle.command.proofs.Patterns.{one_of_two}
use Rattle.command.proofs.closes_idle.Goals as goal

-- a command that closes no move
no_block :
    (w : Wanted) (p : model.Place) (active : Bool) (k : Command)
    → (k ≡ OpenMove → ⊥) → (k ≡ OpenGoal → ⊥)
    → false ≡ closes_idle w p active (command_is k)
unfolding closes_idle command_is
no_block w p a (Head f) h l = refl
no_block w p a OpenMove h l = absurd (h refl)
no_block w p a OpenGoal h l = absurd (l refl)
no_block w p a EndTable h l = refl
no_block w p a NeedProp h l = refl
no_block w p a AddProp h l = refl
no_block w p a DeleteProp h l = refl
no_block w p a Term h l = refl
no_block w p a CloseCondition h l = refl
no_block w p a CloseEffect h l = refl
no_block w p a Unknown h l = refl

pub returns-in-OpenMove : goal.returns-in-OpenMove
unfolding command_is closes_idle
returns-in-OpenMove c =
    let w = wanted_of c.args.wanted in
    let p = place_of c.args.place in
    let a = c.args.active in
    c.unfinished.ensures
    ∙ one_of_two (λ (k : Command). unfinished w p a ≡ closes_idle w p a (command_is k)) refl refl c.in-OpenMove.is

pub returns-in_default : goal.returns-in_default
returns-in_default c = no_block _ _ _ _ c.in_default.not-OpenMove c.in_default.not-OpenGoal
