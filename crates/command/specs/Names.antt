-- The code's enums as what model's definitions name: commands, forms, places, the heads a call takes.
-- Assumes nothing.
use Rattle.command.specs.declared.Command.{Command}
use Rattle.command.specs.declared.Command.TheVariants as command
use Rattle.command.specs.declared.Form.{Form}
use Rattle.command.specs.declared.Form.TheVariants as form
use Rattle.command.specs.declared.Place.{Place}
use Rattle.command.specs.declared.Place.TheVariants as place
use Rattle.command.specs.declared.Wanted.{Wanted}
use Rattle.command.specs.declared.Wanted.TheVariants as wanted
use Rattle.model.specs.Task as task
use Rattle.model.specs.Command as model
use Rattle.model.specs.Reading as reading

unfoldable pub form_of : Form → task.Form
form_of form.Written = task.Form.written
form_of form.Normal = task.Form.normal

unfoldable pub command_is : Command → model.Command
command_is (command.Head f) = model.Command.head (form_of f)
command_is command.OpenMove = model.Command.open_move
command_is command.OpenGoal = model.Command.open_goal
command_is command.EndTable = model.Command.end_table
command_is command.NeedProp = model.Command.need_prop
command_is command.AddProp = model.Command.add_prop
command_is command.DeleteProp = model.Command.delete_prop
command_is command.Term = model.Command.term
command_is command.CloseCondition = model.Command.close_condition
command_is command.CloseEffect = model.Command.close_effect
command_is command.Unknown = model.Command.unknown

unfoldable pub place_of : Place → model.Place
place_of place.Start = model.Place.start
place_of place.Preamble = model.Place.preamble
place_of place.InMove = model.Place.in_move
place_of place.InGoal = model.Place.in_goal
place_of place.Finished = model.Place.finished

unfoldable pub wanted_of : Wanted → reading.Wanted
wanted_of wanted.Written = reading.Wanted.only task.Form.written
wanted_of wanted.Normal = reading.Wanted.only task.Form.normal
wanted_of wanted.Both = reading.Wanted.both
wanted_of wanted.Stored = reading.Wanted.stored
