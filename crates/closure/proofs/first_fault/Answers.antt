-- `first_fault` meets its contract: windows before durations. Assumes nothing.
use Rattle.std.proofs.Common.{rules}
use Rattle.closure.specs.Checking.{fault_first}
use Rattle.closure.proofs.first_fault.Goals as goal

pub returns : goal.returns
returns c = fault_first _ _ _ _ c.first_window.ensures (search rules)
