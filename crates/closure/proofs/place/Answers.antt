-- `place` meets its contract: a fault of the day, or what `fill` answers. Assumes nothing.
use Rattle.std.proofs.Common.{refl}
use Rattle.closure.specs.Filling.{filled_refused, place_answer_lem}
use Rattle.closure.proofs.place.Goals as goal

pub returns-in-Some : goal.returns-in-Some
returns-in-Some c =
    rw c.at.ensures
    (place_answer_lem _ _ _ ((rw c.in-Some.is at c.first_fault.ensures) _) (filled_refused _ _ _ refl))

pub returns : goal.returns
returns c = place_answer_lem _ _ _ ((rw c.in_default.is at c.first_fault.ensures).1 _) c.fill.ensures
