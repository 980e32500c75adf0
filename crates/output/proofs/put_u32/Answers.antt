-- `put_u32` meets its contract. Assumes nothing.
use native.Mathlib.Omega.{arith}
use Rattle.integer.proofs.BigEndian.{length_bytes}
use Rattle.output.specs.Writing.{written_whole, written_not}
use Rattle.output.proofs.put_u32.Goals as goal

pub returns-then-out-next : goal.returns-then-out-next
returns-then-out-next c = let n = length_bytes 4 c.args.n in written_not _ (omega (arith, n)) (omega (arith, n))

pub returns : goal.returns
returns c =
    let n = length_bytes 4 c.args.n in
    written_whole (omega (arith, n)) c.put_unsigned.ensures (omega (arith, n))
