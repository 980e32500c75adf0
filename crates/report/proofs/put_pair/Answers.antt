-- `put_pair` meets its contract: three steps, one behind the other. Assumes nothing.
use native.Mathlib.Omega.{arith}
use Rattle.output.specs.Writing.{written_join}
use Rattle.report.specs.Lines.{length_pair, pair_line}
use Rattle.report.proofs.put_pair.Goals as goal

pub put_bytes-next-requires : goal.put_bytes-next-requires
put_bytes-next-requires c = omega (arith, length_pair c.args.first.now c.args.a c.args.second.now c.args.b)

pub put_decimal-next-requires : goal.put_decimal-next-requires
put_decimal-next-requires c =
    omega (
      arith,
      length_pair c.args.first.now c.args.a c.args.second.now c.args.b,
      c.requires,
      c.put_bytes-next.ensures.behind,
    )

pub put_line-requires : goal.put_line-requires
put_line-requires c =
    omega (
      arith,
      length_pair c.args.first.now c.args.a c.args.second.now c.args.b,
      c.requires,
      c.put_decimal-next.ensures.behind,
      c.put_bytes-next.ensures.behind,
    )

pub returns : goal.returns
returns c =
    rw (← pair_line c.args.first.now c.args.a c.args.second.now c.args.b)
    (written_join
    (written_join
    c.put_bytes-next.ensures
    c.put_decimal-next.ensures)
    c.put_line.ensures)
