-- `takes_head` meets its contract, by the heads wanted and the head's form. Assumes nothing.
use Rattle.std.proofs.Common.{◌≡◌, true, refl, ◌∙◌}
use denote.Enum.Bare.{sameb}
use Rattle.model.specs.Task as task
use Rattle.model.specs.Command.{head}
use Rattle.model.specs.Reading.{only, head_wanted}
use Rattle.command.specs.declared.Form.{Form}
use Rattle.command.specs.declared.Form.TheVariants as form
use Rattle.command.specs.declared.Wanted.{Wanted}
use Rattle.command.specs.contracts.Form as code
use Rattle.command.specs.Names.{form_of, wanted_of}
use Rattle.command.proofs.Patterns.{one_of_two}
use Rattle.command.proofs.takes_head.Goals as goal

takes_written : (f : Form) → sameb code.the_type f form.Written ≡ head_wanted (only task.written) (head (form_of f))
unfolding head_wanted form_of
takes_written form.Written = refl
takes_written form.Normal = refl

takes_normal : (f : Form) → sameb code.the_type f form.Normal ≡ head_wanted (only task.normal) (head (form_of f))
unfolding head_wanted form_of
takes_normal form.Written = refl
takes_normal form.Normal = refl

pub returns-in-Both : goal.returns-in-Both
unfolding wanted_of head_wanted
returns-in-Both c = one_of_two (λ (w : Wanted). true ≡ head_wanted (wanted_of w) (head (form_of c.args.form))) refl refl c.in-Both.is

pub returns-in-Written : goal.returns-in-Written
unfolding wanted_of
returns-in-Written c = rw c.in-Written.is (c.eq.ensures ∙ takes_written c.args.form)

pub returns-in-Normal : goal.returns-in-Normal
unfolding wanted_of
returns-in-Normal c = rw c.in-Normal.is (c.eq-in-Normal.ensures ∙ takes_normal c.args.form)
