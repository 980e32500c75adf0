-- `offer` meets its contract: one law a case. Assumes nothing.
use mathlib.Core.Path.{◌≡◌}
use lib.IntN.{pos}
use Rattle.integer.specs.Linear.{back}
use Rattle.model.specs.Layer.{Value, reaches}
use Rattle.model.specs.Memory.{encode}
use Rattle.layer_moves.specs.Raising.{offer_assign, offer_unbounded, offer_old}
use Rattle.layer_moves.proofs.offer.Goals as goal

pub returns-then-kind-eq0 : goal.returns-then-kind-eq0
returns-then-kind-eq0 c = rw (back c.args.value c.ranges.value.sfits) (offer_assign c.args.old c.if-kind-eq0.true)

pub returns-then-reaches : goal.returns-then-reaches
returns-then-reaches c =
    let told : (x : Value) → c.args.value ≡ encode x → c.reaches.result ≡ reaches x (pos 1) = rw (back c.args.value c.ranges.value.sfits) at c.reaches.ensures in
    offer_unbounded c.if-kind-eq0.false (told) c.if-reaches.true

pub returns-else-reaches : goal.returns-else-reaches
returns-else-reaches c =
    let told : (x : Value) → c.args.value ≡ encode x → c.reaches.result ≡ reaches x (pos 1) = rw (back c.args.value c.ranges.value.sfits) at c.reaches.ensures in
    rw (back c.args.old c.ranges.old.sfits) (offer_old c.if-kind-eq0.false (told) c.if-reaches.false)
