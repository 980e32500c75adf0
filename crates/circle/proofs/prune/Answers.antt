-- `prune` meets its contract. The entries before var are filled.
-- Assumes nothing.
use mathlib.Core.Path.{refl, ◌∙◌}
use native.Mathlib.Omega.{arith}
use Rattle.circle.specs.Pruning.{alive_at, kept_alive, kept_dead, filled_none, filled_more}
use Rattle.circle.proofs.prune.Goals as goal
use Rattle.circle.proofs.prune.Goals.{then-alive-var, else-alive-var}

pub loop-var-init : goal.loop-var-init
loop-var-init c = filled_none _ _ refl

pub returns : goal.returns
returns c = (c.loop-var.invariant.size, λ v h. c.loop-var.invariant.same v (omega arith))

pub loop-var-preserved : goal.loop-var-preserved
unfolding alive_at
loop-var-preserved c =
    filled_more c.loop-var.invariant (omega arith)
    (elim c.if-alive-var.branch [
      | then-alive-var w ↦ kept_alive _ _ _ _ w.if-alive-var.true (w.next-is ∙ w.has_live_predecessor.ensures)
      | else-alive-var w ↦ kept_dead _ _ _ _ w.if-alive-var.false w.next-is
    ])
