-- `put_record` meets its contract: one line. Assumes nothing.
use native.Mathlib.Omega.{arith}
use Rattle.model.specs.Listing.{space}
use Rattle.report.specs.Lines.{record_line, record_room}
use Rattle.report.proofs.put_record.Goals as goal

pub put_pair-requires : goal.put_pair-requires
unfolding record_line space
put_pair-requires c =
    let a = c.args in
    omega (arith, record_room a.chosen a.count (omega arith) (omega arith))

pub returns : goal.returns
unfolding record_line space
returns c = c.put_pair.ensures
