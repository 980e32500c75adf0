-- `note` meets its contract. The invariant: the first `i` entries are noted and the others as they were. Assumes nothing.
use mathlib.Core.Path.{◌∙◌, ap}
use mathlib.Core.Bool.{false}
use lib.IntN.{ℤ, pos}
use lib.ListN.{get_or}
use Rattle.integer.specs.Linear.{back}
use Rattle.model.specs.Theorems.Layers.Entries.{noted}
use Rattle.layer_memory.specs.Filling.{filled_none, filled_step, filled_end, noted_at}
use native.Mathlib.Omega.{arith}
use Rattle.layer_memory.proofs.note.Goals as goal

pub loop-i-init : goal.loop-i-init
loop-i-init c = filled_none

pub loop-i-preserved : goal.loop-i-preserved
unfolding noted_at
loop-i-preserved c =
    let a = c.args in
    let l = c.loop-i in
    let f = l.invariant in
    let old = get_or l.entries l.i (pos 0) in
    let e = rw (back old (omega arith)) at c.noted.ensures in
    filled_step (omega arith) f (back c.noted.result c.noted.type_inv ∙ e ∙ ap (λ (z : ℤ). noted z (get_or a.marked.now l.i false) a.t) (f.kept l.i (omega arith)))

pub returns : goal.returns
returns c = filled_end (omega arith) (omega arith) c.loop-i.invariant
