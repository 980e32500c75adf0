-- `keep_props` meets its contract. Assumes nothing.
use native.Mathlib.Omega.{arith}
use Rattle.targets.specs.Carrying.{mapped_none, mapped_step, mapped_end, held_in}
use Rattle.targets.proofs.keep_props.Goals as goal
use Rattle.targets.proofs.keep_props.Goals.{then-wanted-p, else-wanted-p}

pub loop-p-init : goal.loop-p-init
loop-p-init c = mapped_none

pub loop-p-preserved : goal.loop-p-preserved
unfolding held_in
loop-p-preserved c =
    mapped_step (omega arith) c.loop-p.invariant
    (elim c.if-wanted-p.branch [ then-wanted-p w ↦ rw (w.wanted-is, w.if-wanted-p.true) | else-wanted-p w ↦ rw (w.wanted-is, w.if-wanted-p.false) ])

pub returns : goal.returns
returns c = mapped_end c.loop-p.auto.p-end c.loop-p-test.false c.loop-p.invariant
