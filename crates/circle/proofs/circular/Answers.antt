-- `circular` meets its contract. After each round a variable is alive if a walk of that many edges ends in it.
-- Assumes nothing.
use mathlib.Core.Path.{sym, ◌∙◌}
use native.Mathlib.Omega.{arith}
use Rattle.circle.specs.Pruning.{pruned_start, pruned_next, pruned_none, pruned_end}
use Rattle.circle.proofs.circular.Goals as goal

pub loop-round-init : goal.loop-round-init
loop-round-init c = pruned_start _ _ c.requires

pub any_alive-requires : goal.any_alive-requires
any_alive-requires c = c.requires

pub prune-alive-requires : goal.prune-alive-requires
prune-alive-requires c = c.requires

pub loop-round-preserved : goal.loop-round-preserved
loop-round-preserved c = pruned_next c.loop-round.invariant c.prune-alive.ensures.0 c.prune-alive.ensures.1

pub any_alive-requires-2 : goal.any_alive-requires-2
any_alive-requires-2 c = c.requires

pub returns : goal.returns
returns c = c.any_alive-2.ensures ∙ pruned_end c.loop-round.invariant (omega arith)

pub returns-then-not-any_alive : goal.returns-then-not-any_alive
returns-then-not-any_alive c = pruned_none c.loop-round.invariant c.loop-round.auto.round-end (sym c.any_alive.ensures ∙ c.if-not-any_alive.true)
