-- What `outcome` means: it is `reached t` exactly if t is the answer layer, `Reached`, and `exhausted t` exactly if there is "no plan"
-- with t, `Exhausted`; there is one such t; the reported layers keep within the bound; and with "no plan" no list solves the relaxed
-- task. Assumes nothing.
use Rattle.model.specs.Task.{Task}
use Rattle.model.specs.Move.{State}
use Rattle.model.specs.Layer.{Reached, Exhausted, Outcome, reached, exhausted}

-- the answer is right
abbrev pub Answered : Task → State → Outcome → Type 0
Answered k s (reached t) = Reached k s t
Answered k s (exhausted t) = Exhausted k s t
