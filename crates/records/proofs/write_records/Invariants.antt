-- `write_records` meets its contract. The invariant: the records of the moves below `b` are written, up to `at`. Assumes nothing.
use Rattle.records.specs.Records.{count_at, Writing}
use Rattle.records.proofs.write_records.Given as goal

abbrev pub invariant-loop-b : goal.invariant-loop-b
invariant-loop-b l = Writing (count_at l.counts) l.moves l.initial.out l.from l.b l.at l.out
