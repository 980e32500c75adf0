-- `put_below` meets its contract: the sum turned, and one less the constant. Assumes nothing.
use native.Mathlib.Omega.{arith}
use Rattle.model.specs.NormalForm.{normal_condition}
use Rattle.normal_condition.specs.Signs.{negate_sum_if}
use Rattle.normal_condition.proofs.Signed.{down_back}
use Rattle.normal_condition.proofs.put_below.Goals as goal

pub returns : goal.returns
unfolding normal_condition negate_sum_if
returns c = rw (down_back c.args.c (omega (arith, c.requires.2))) at c.put_condition.ensures
