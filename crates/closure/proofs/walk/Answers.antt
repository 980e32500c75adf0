-- `walk` meets its contract. The invariant: the windows before `w` are left, the entries before `i` are placed, and their starts are
-- written. The measure is what each turn makes one fewer: the windows and entries that are left. Assumes nothing.
use Prim.Native.Nat.{ℕ}
use native.Mathlib.Omega.{arith}
use mathlib.Core.Path.{ap, ◌∙◌}
use mathlib.Core.Bool.{cond}
use lib.Dec.{leb}
use Rattle.placement.specs.Day.{window_at, duration_at}
use Rattle.placement.specs.Placing.{start_in}
use Rattle.closure.specs.Walking.{walking_begin, walking_place, walking_leave, walking_stuck, walking_placed, larger}
use Rattle.closure.proofs.walk.Goals as goal

pub loop-i-init : goal.loop-i-init
loop-i-init c = walking_begin _ _ _

pub loop-i-preserved-then-end-shut : goal.loop-i-preserved-then-end-shut
unfolding duration_at
loop-i-preserved-then-end-shut c =
    walking_place c.requires c.loop-i.invariant (omega arith) c.minute_at.ensures.0
    (omega arith) c.put_u32.ensures

pub returns-then-w-windows : goal.returns-then-w-windows
unfolding duration_at
returns-then-w-windows c =
    walking_stuck c.requires c.loop-i.invariant (omega arith)
    c.minute_at.ensures.0 (omega arith) (omega arith)

pub loop-i-preserved : goal.loop-i-preserved
unfolding duration_at window_at start_in
loop-i-preserved c =
    let from = c.loop-i.from in
    walking_leave c.requires c.loop-i.invariant (omega arith) c.minute_at.ensures.0
    (omega arith) (omega arith)
    (c.max-from.ensures ∙ larger from _ ∙ ap (λ (o : ℕ). cond (leb from o) o from) c.minute_at-else-end-shut.ensures.0)
    c.minute_at-shut.ensures.0

pub returns : goal.returns
returns c = walking_placed c.requires c.loop-i.invariant (omega arith)
