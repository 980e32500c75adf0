-- `put_i32` meets its contract. Assumes nothing.
use native.Mathlib.Omega.{arith}
use Rattle.integer.proofs.BigEndian.{length_signed_bytes}
use Rattle.integer.specs.Linear.{back}
use Rattle.output.specs.Writing.{written_whole, written_not}
use Rattle.output.proofs.put_i32.Goals as goal

pub returns-then-out-next : goal.returns-then-out-next
returns-then-out-next c = let n = length_signed_bytes 4 c.args.v in written_not _ (omega (arith, n)) (omega (arith, n))

pub returns : goal.returns
returns c =
    let n = length_signed_bytes 4 c.args.v in
    written_whole (omega (arith, n)) (rw (back c.args.v c.ranges.v.sfits) at c.put_i32.ensures) (omega (arith, n))
