-- `keep_records` meets its contract. Assumes nothing.
use native.Mathlib.Omega.{arith}
use Rattle.records.proofs.keep_records.Goals as goal

pub returns-then-records-gt-KEPT : goal.returns-then-records-gt-KEPT
returns-then-records-gt-KEPT c = record { is = λ few. absurd (omega (arith, c.if-records-gt-KEPT.true)) }

pub returns : goal.returns
returns c = record { is = λ few. c.write_records.ensures }
