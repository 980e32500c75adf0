-- `changed` meets its contract: each arm is the change of its number. Assumes nothing.
use Prim.Native.Nat.{ℕ}
use native.Mathlib.Omega.{arith}
use mathlib.Core.Path.{sym, ap, ◌∙◌}
use lib.IntN.{◌+ℤ◌, ◌-ℤ◌}
use Rattle.integer.specs.Linear.{back, op2_back, abs_sum, abs_sub}
use Rattle.model.specs.Task.{Kind}
use Rattle.model.specs.Seen.{kind_of}
use Rattle.model.specs.Move.{changed}
use Rattle.real_move.specs.Walking.{kind_rest}
use Rattle.real_move.proofs.changed.Goals as goal

pub returns-in-0 : goal.returns-in-0
unfolding kind_of changed
returns-in-0 c = back c.args.z c.ranges.z.sfits ∙ ap (λ (n : ℕ). changed (kind_of n) c.args.old c.args.z) (sym c.in-0.is)

pub returns-in-1 : goal.returns-in-1
unfolding kind_of changed
returns-in-1 c =
    let a = c.args in
    op2_back ◌+ℤ◌ a.old a.z c.ranges.old c.ranges.z (omega (arith, abs_sum a.old a.z, c.requires.0, c.requires.1))
    ∙ ap (λ (n : ℕ). changed (kind_of n) a.old a.z) (sym c.in-1.is)

pub returns-in_default : goal.returns-in_default
unfolding changed
returns-in_default c =
    let a = c.args in
    op2_back ◌-ℤ◌ a.old a.z c.ranges.old c.ranges.z (omega (arith, abs_sub a.old a.z, c.requires.0, c.requires.1))
    ∙ ap (λ (x : Kind). changed x a.old a.z) (sym (kind_rest a.kind (λ e. omega arith) (λ e. omega arith)))
