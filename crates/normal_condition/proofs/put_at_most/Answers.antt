-- `put_at_most` meets its contract: both turned. Assumes nothing.
use native.Mathlib.Omega.{arith}
use Rattle.model.specs.NormalForm.{normal_condition}
use Rattle.normal_condition.specs.Signs.{negate_sum_if}
use Rattle.normal_condition.proofs.Signed.{neg_back}
use Rattle.normal_condition.proofs.put_at_most.Goals as goal

pub returns : goal.returns
unfolding normal_condition negate_sum_if
returns c = rw (neg_back c.args.c (omega (arith, c.requires.2))) at c.put_condition.ensures
