-- `in_place` meets its contract: the places of each command are one, or those from a first one to a last.
-- Assumes nothing.
use Rattle.std.proofs.Common.{◌≡◌, refl, ◌∙◌}
use denote.Enum.Bare.{sameb}
use Rattle.model.specs.Task.{written}
use Rattle.model.specs.Command.{preamble, in_move, in_goal, order, in_place, head, open_move, open_goal, end_table, need_prop, term, close_condition}
use Rattle.command.specs.declared.Command.{Command}
use Rattle.command.specs.declared.Command.TheVariants.{AddProp, DeleteProp, CloseEffect}
use Rattle.command.specs.declared.Place.{Place}
use Rattle.command.specs.declared.Place.TheVariants as place
use Rattle.command.specs.contracts.Place as code
use Rattle.command.specs.Names.{command_is, place_of}
use Rattle.command.specs.Checks.{lies_in, stands_within}
use Rattle.command.proofs.Patterns.{one_of_three}
use Rattle.command.proofs.Places.{each_place}
use Rattle.command.proofs.in_place.Goals as goal

pub returns-in-Head : goal.returns-in-Head
unfolding command_is place_of in_place
returns-in-Head c = rw c.in-Head.is (c.eq.ensures ∙ each_place (λ (p : Place). sameb code.the_type p place.Start ≡ in_place (place_of p) (head written)) refl refl refl refl refl c.args.place)

pub returns-in-OpenMove : goal.returns-in-OpenMove
unfolding command_is place_of lies_in order in_place
returns-in-OpenMove c = rw c.in-OpenMove.is (c.lies.ensures ∙ stands_within preamble in_goal open_move refl refl refl refl refl (place_of c.args.place))

pub returns-in-OpenGoal : goal.returns-in-OpenGoal
unfolding command_is place_of lies_in order in_place
returns-in-OpenGoal c = rw c.in-OpenGoal.is (c.lies-in-OpenGoal.ensures ∙ stands_within preamble in_move open_goal refl refl refl refl refl (place_of c.args.place))

pub returns-in-EndTable : goal.returns-in-EndTable
unfolding command_is place_of in_place
returns-in-EndTable c = rw c.in-EndTable.is (c.eq-in-EndTable.ensures ∙ each_place (λ (p : Place). sameb code.the_type p place.InGoal ≡ in_place (place_of p) end_table) refl refl refl refl refl c.args.place)

pub returns-in-NeedProp : goal.returns-in-NeedProp
unfolding command_is place_of lies_in order in_place
returns-in-NeedProp c =
    let p = c.args.place in
    c.lies-in-NeedProp.ensures
    ∙ one_of_three (λ (k : Command). lies_in in_move in_goal (place_of p) ≡ in_place (place_of p) (command_is k))
    (stands_within in_move in_goal need_prop refl refl refl refl refl (place_of p))
    (stands_within in_move in_goal term refl refl refl refl refl (place_of p))
    (stands_within in_move in_goal close_condition refl refl refl refl refl (place_of p))
    c.in-NeedProp.is

pub returns-in-AddProp : goal.returns-in-AddProp
unfolding command_is place_of in_place
returns-in-AddProp c =
    let stands = λ (k : Command) (p : Place). sameb code.the_type p place.InMove ≡ in_place (place_of p) (command_is k) in
    c.eq-in-AddProp.ensures
    ∙ one_of_three (λ (k : Command). stands k c.args.place)
    (each_place (stands AddProp) refl refl refl refl refl c.args.place)
    (each_place (stands DeleteProp) refl refl refl refl refl c.args.place)
    (each_place (stands CloseEffect) refl refl refl refl refl c.args.place)
    c.in-AddProp.is

pub returns-in-Unknown : goal.returns-in-Unknown
unfolding command_is in_place
returns-in-Unknown c = rw c.in-Unknown.is refl
