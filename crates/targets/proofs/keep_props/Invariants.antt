-- The invariant of `keep_props`: of the propositions below `p` those are kept that the layer has. Assumes nothing.
use mathlib.Core.Bool.{false}
use Rattle.targets.specs.Carrying.{Mapped, held_in}
use Rattle.targets.proofs.keep_props.Given as goal

abbrev pub invariant-loop-p : goal.invariant-loop-p
invariant-loop-p l = Mapped false (held_in l.has) l.p l.initial.wanted l.wanted
