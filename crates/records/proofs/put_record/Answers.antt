-- `put_record` meets its contract. Assumes nothing.
use native.Mathlib.Omega.{arith}
use lib.ListN.{length-set}
use Rattle.records.specs.Records.{put_one}
use Rattle.records.proofs.put_record.Goals as goal

pub bounds-out-at-2 : goal.bounds-out-at-2
bounds-out-at-2 c = simp length-set (omega (arith, c.put_u64.auto.out, c.requires.0))

pub returns : goal.returns
returns c = put_one c.args.out.now c.args.at c.args.b c.args.n c.requires.0 c.put_u64.ensures
