-- `held` meets its contract. Assumes nothing.
use mathlib.Core.Path.{ap, ap₂, ◌∙◌, sym}
use mathlib.Core.Bool.{Bool, ◌&&◌}
use lib.IntN.{pos}
use lib.Signed.{le_z}
use Rattle.integer.specs.Linear.{back, back_small}
use Rattle.stored_layer.specs.View.{held_by}
use Rattle.stored_layer.proofs.held.Goals as goal

pub returns-then-entry-ge0 : goal.returns-then-entry-ge0
unfolding held_by
returns-then-entry-ge0 c =
    let a = c.args in
    let from_0 = rw (back a.entry c.ranges.entry.sfits) at c.if-entry-ge0.true in
    ap₂ le_z (back a.entry c.ranges.entry.sfits) (back_small (pos a.t) c.requires)
    ∙ sym (ap (λ (b : Bool). b && le_z a.entry (pos a.t)) from_0)

pub returns-else-entry-ge0 : goal.returns-else-entry-ge0
unfolding held_by
returns-else-entry-ge0 c =
    let a = c.args in
    let below_0 = rw (back a.entry c.ranges.entry.sfits) at c.if-entry-ge0.false in
    c.if-entry-ge0.false ∙ sym (ap (λ (b : Bool). b && le_z a.entry (pos a.t)) below_0)
