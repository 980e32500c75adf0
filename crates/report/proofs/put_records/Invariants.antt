-- `put_records` meets its contract. The invariant: the lines of the records passed are written. Assumes nothing.
use mathlib.Core.List.{List}
use Rattle.model.specs.Plan.{Record}
use Rattle.report.specs.Records.{Planned, Listed}
use Rattle.report.proofs.put_records.Given as goal

abbrev pub invariant-loop-i : goal.invariant-loop-i
invariant-loop-i l = (rs : List Record) → Planned l.plan l.n rs → Listed l.initial.text l.at l.plan rs l.text l.next l.i
