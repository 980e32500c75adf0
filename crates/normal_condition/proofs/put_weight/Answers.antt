-- `put_weight` meets its contract: three stores side by side, if they fit. Assumes nothing.
use native.Mathlib.Omega.{arith}
use Rattle.integer.proofs.BigEndian.{length_signed_bytes}
use Rattle.integer.specs.Linear.{back}
use Rattle.model.specs.Command.{code_of}
use Rattle.block.specs.Items.{first_term, first_term_length}
use Rattle.output.specs.Writing.{written_whole, written_not, written_join, pair_written}
use Rattle.normal_condition.proofs.put_weight.Goals as goal

pub returns-then-out-next : goal.returns-then-out-next
returns-then-out-next c =
    let a = c.args in
    let n = first_term_length (record { var = a.var; weight = a.weight }) in
    written_not a.out.now (omega (arith, n, c.if-out-next.true)) (omega (arith, n))

pub returns : goal.returns
unfolding first_term code_of
returns c =
    let a = c.args in
    let fits = c.if-out-next.false in
    let n = length_signed_bytes 2 a.weight in
    let pair = pair_written a.out.now a.at 87 a.var (omega (arith, fits)) in
    written_join pair
    (written_whole (omega (arith, n, pair.kept, fits)) (rw (back a.weight c.ranges.weight.sfits) at c.put_i16.ensures) (omega (arith, n)))
