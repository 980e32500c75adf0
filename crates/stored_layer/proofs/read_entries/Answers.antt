-- `read_entries` meets its contract. The invariant: the first `i` flags are read. Assumes nothing.
use Prim.Native.Nat.{◌+◌}
use native.Mathlib.Omega.{arith}
use mathlib.Core.Path.{ap, ◌∙◌}
use lib.IntN.{ℤ, pos}
use lib.ListN.{get_or}
use Rattle.integer.specs.Linear.{back}
use Rattle.stored_layer.specs.View.{held_by, held_at, filled_none, filled_step, filled_end}
use Rattle.stored_layer.proofs.read_entries.Goals as goal

pub loop-i-init : goal.loop-i-init
loop-i-init c = filled_none c.requires.3

pub loop-i-preserved : goal.loop-i-preserved
unfolding held_at
loop-i-preserved c =
    let a = c.args in
    let l = c.loop-i in
    let e = get_or a.layers.now (a.from + l.i) (pos 0) in
    filled_step (omega arith) l.invariant (c.held.ensures ∙ ap (λ (z : ℤ). held_by z a.t) (back e (omega arith)))

pub returns : goal.returns
returns c = filled_end (omega arith) (omega arith) c.loop-i.invariant
