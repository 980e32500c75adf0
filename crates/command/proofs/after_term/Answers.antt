-- `after_term` meets its contract, command by command. Assumes nothing.
use Rattle.std.proofs.Common.{◌≡◌, true, false, refl}
use Rattle.model.specs.Command.{after_term}
use Rattle.command.specs.declared.Command.{Command}
use Rattle.command.specs.declared.Command.TheVariants.{Head, OpenMove, OpenGoal, EndTable, NeedProp, AddProp, DeleteProp, Term, CloseCondition, CloseEffect, Unknown}
use Rattle.command.specs.Names.{command_is}
use Rattle.command.proofs.Patterns.{one_of_three}
use Rattle.command.proofs.after_term.Goals as goal

-- the other commands
no_follower : (k : Command) → (k ≡ Term → ⊥) → (k ≡ CloseCondition → ⊥) → (k ≡ CloseEffect → ⊥) → false ≡ after_term (command_is k)
unfolding after_term command_is
no_follower (Head f) a b d = refl
no_follower OpenMove a b d = refl
no_follower OpenGoal a b d = refl
no_follower EndTable a b d = refl
no_follower NeedProp a b d = refl
no_follower AddProp a b d = refl
no_follower DeleteProp a b d = refl
no_follower Term a b d = absurd (a refl)
no_follower CloseCondition a b d = absurd (b refl)
no_follower CloseEffect a b d = absurd (d refl)
no_follower Unknown a b d = refl

pub returns-in-Term : goal.returns-in-Term
unfolding command_is after_term
returns-in-Term c = one_of_three (λ (k : Command). true ≡ after_term (command_is k)) refl refl refl c.in-Term.is

pub returns-in_default : goal.returns-in_default
returns-in_default c = no_follower _ c.in_default.not-Term c.in_default.not-CloseCondition c.in_default.not-CloseEffect
