-- States that agree below P and V are the same to the checker: the same moves can be made, they lead to states that agree, and the same lists
-- pass. And the bytes of a state in range are accepted, and stand for a state that agrees with it. Assumes nothing.
use Rattle.model.specs.Task.{Task}
use Rattle.model.specs.Move.{State}
use Rattle.model.specs.Theorems.Reading.Agreeing.{AgreeBelow}

-- on a task's propositions and variables
abbrev pub Agree : Task → State → State → Type 0
Agree k s t = AgreeBelow k.props k.vars s t
