-- `fault_number` meets its contract. Assumes nothing.
use mathlib.Core.Path.{sym, ap}
use Rattle.schedule.specs.Check.{fault_number}
use Rattle.schedule.proofs.fault_number.Goals as goal

pub returns-in-Missing : goal.returns-in-Missing
unfolding fault_number
returns-in-Missing c = ap fault_number (sym c.in-Missing.is)

pub returns-in-NotAllowed : goal.returns-in-NotAllowed
unfolding fault_number
returns-in-NotAllowed c = ap fault_number (sym c.in-NotAllowed.is)

pub returns-in-OutOfRange : goal.returns-in-OutOfRange
unfolding fault_number
returns-in-OutOfRange c = ap fault_number (sym c.in-OutOfRange.is)
