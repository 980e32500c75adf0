-- `lapyndo_pddl` meets its contract. Assumes nothing.
use Prim.Native.Nat.{ℕ}
use mathlib.Core.Path.{ap, ◌∙◌}
use mathlib.Core.List.{List}
use native.Mathlib.Omega.{arith}
use Rattle.model.specs.Exports.{write_code}
use Rattle.model.specs.Limits.{paper}
use Rattle.model.specs.Pddl.{pddl_answer}
use Rattle.model.specs.Theorems.Sizes.Answers.{result_limit, WriteSmall}
use Rattle.model.proofs.Theorems.Sizes.Answers.{write_wider}
use Rattle.model.proofs.Theorems.Pddl.Sizes.{pddl_small}
use borrow.Author.Rules.{rules}
use Rattle.engine.proofs.lapyndo_pddl.Goals as goal

pddl-fits : (t bs out : List ℕ) → WriteSmall result_limit (pddl_answer paper t bs out)
pddl-fits t bs out = write_wider (pddl_answer paper t bs out) (omega arith) (pddl_small t bs out)

pub write_code-requires : goal.write_code-requires
write_code-requires c = rw c.pddl.ensures.0 (pddl-fits _ _ _)

pub returns : goal.returns
returns c = (c.write_code.ensures ∙ ap write_code c.pddl.ensures.0, c.pddl.ensures.1)
