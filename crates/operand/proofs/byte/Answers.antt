-- `byte` meets its contract.
-- Assumes nothing.
use native.Mathlib.Omega.{arith}
use Rattle.operand.proofs.byte.Goals as goal

pub returns : goal.returns
returns c = omega (arith, c.shared_slice_known-1.given c.args.at)
