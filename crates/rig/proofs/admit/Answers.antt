-- `admit` meets its contract. Assumes nothing.
use Rattle.rig.specs.Admission.{not_beyond_admits, beyond_refused, table_refused}
use mathlib.Core.Path.{ap}
use mathlib.Core.Bool.{not}
use Rattle.rig.proofs.admit.Goals as goal

pub returns-then-not-beyond : goal.returns-then-not-beyond
returns-then-not-beyond c = not_beyond_admits _ _ _ c.beyond.ensures (ap not c.if-not-beyond.true)

pub returns-in-Ok : goal.returns-in-Ok
returns-in-Ok c =
    rw c.at.ensures (beyond_refused _ _ _ c.beyond.ensures (ap not c.if-not-beyond.false) c.outline.ensures c.in-Ok.is)

pub returns-in-Err : goal.returns-in-Err
returns-in-Err c = table_refused _ _ _ c.outline.ensures c.in-Err.is
