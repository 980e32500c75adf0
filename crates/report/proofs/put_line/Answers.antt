-- `put_line` meets its contract: three steps, one behind the other. Assumes nothing.
use native.Mathlib.Omega.{arith}
use Rattle.model.specs.Listing.{newline}
use Rattle.output.specs.Writing.{written_join}
use Rattle.report.specs.Lines.{line_text, length_line}
use Rattle.report.proofs.put_line.Goals as goal

pub put_bytes-next-requires : goal.put_bytes-next-requires
put_bytes-next-requires c = omega (arith, length_line c.args.word.now c.args.n)

pub put_decimal-next-requires : goal.put_decimal-next-requires
put_decimal-next-requires c = omega (arith, length_line c.args.word.now c.args.n, c.requires, c.put_bytes-next.ensures.behind)

pub put_bytes-requires : goal.put_bytes-requires
put_bytes-requires c =
    omega (
      arith,
      length_line c.args.word.now c.args.n,
      c.requires,
      c.put_decimal-next.ensures.behind,
      c.put_bytes-next.ensures.behind,
    )

pub returns : goal.returns
unfolding line_text newline
returns c =
    written_join
    (written_join
    c.put_bytes-next.ensures
    c.put_decimal-next.ensures)
    c.put_bytes.ensures
