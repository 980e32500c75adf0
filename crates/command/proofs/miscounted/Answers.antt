-- `miscounted` meets its contract: check 6 concerns 41 and 47 alone.
-- Assumes nothing.
use mathlib.Core.Path.{◌≡◌, refl}
use mathlib.Core.Bool.{false}
use Prim.Native.Nat.{ℕ}
use Rattle.command.specs.declared.Command.{Command}
use Rattle.command.specs.declared.Command.TheVariants.{Head, OpenMove, OpenGoal, EndTable, NeedProp, AddProp, DeleteProp, Term, CloseCondition, CloseEffect, Unknown}
use Rattle.command.specs.Names.{command_is}
use Rattle.command.specs.Checks.{miscounted}
use Rattle.command.proofs.miscounted.Goals as goal

-- a command that opens no block
no_block : (moves opened : ℕ) (k : Command) → (k ≡ OpenMove → ⊥) → (k ≡ OpenGoal → ⊥) → false ≡ miscounted moves opened (command_is k)
unfolding miscounted command_is
no_block moves opened (Head f) h l = refl
no_block moves opened OpenMove h l = absurd (h refl)
no_block moves opened OpenGoal h l = absurd (l refl)
no_block moves opened EndTable h l = refl
no_block moves opened NeedProp h l = refl
no_block moves opened AddProp h l = refl
no_block moves opened DeleteProp h l = refl
no_block moves opened Term h l = refl
no_block moves opened CloseCondition h l = refl
no_block moves opened CloseEffect h l = refl
no_block moves opened Unknown h l = refl

pub returns-in-OpenMove : goal.returns-in-OpenMove
unfolding command_is miscounted
returns-in-OpenMove c = rw c.in-OpenMove.is refl

pub returns-in-OpenGoal : goal.returns-in-OpenGoal
unfolding command_is miscounted
returns-in-OpenGoal c = rw c.in-OpenGoal.is refl

pub returns-in_default : goal.returns-in_default
returns-in_default c = no_block _ _ _ c.in_default.not-OpenMove c.in_default.not-OpenGoal
