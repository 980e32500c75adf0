-- `same_truths` meets its contract. The invariant: the first `p` are the same. Assumes nothing.
use borrow.Author.Tests.{not-true, not-false}
use Rattle.layer_checks.specs.Comparing.{same_truth, passing_start, passing_next, passing_stop, passing_end}
use native.Mathlib.Omega.{arith}
use Rattle.layer_checks.proofs.same_truths.Goals as goal

pub loop-p-init : goal.loop-p-init
loop-p-init c = passing_start _ _

pub returns-then-has-p : goal.returns-then-has-p
unfolding same_truth
returns-then-has-p c = passing_stop c.loop-p.invariant (omega arith) (not-true _ c.if-has-p.true)

pub loop-p-preserved : goal.loop-p-preserved
unfolding same_truth
loop-p-preserved c = passing_next c.loop-p.invariant (omega arith) (not-false _ c.if-has-p.false)

pub returns : goal.returns
returns c = passing_end c.loop-p.invariant (omega arith)
