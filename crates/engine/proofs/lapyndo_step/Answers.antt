-- `lapyndo_step` meets its contract. Assumes nothing.
use Prim.Native.Nat.{ℕ}
use mathlib.Core.Path.{ap, ◌∙◌}
use mathlib.Core.List.{List}
use native.Mathlib.Omega.{arith}
use Rattle.model.specs.Exports.{write_code}
use Rattle.model.specs.Limits.{paper}
use Rattle.model.specs.Calls.{step_answer}
use Rattle.model.specs.Theorems.Sizes.Answers.{result_limit, WriteSmall}
use Rattle.model.proofs.Theorems.Sizes.Answers.{write_wider, step_small}
use borrow.Author.Rules.{rules}
use Rattle.engine.proofs.lapyndo_step.Goals as goal

step_fits : (t bs : List ℕ) (b : ℕ) (out : List ℕ) → WriteSmall result_limit (step_answer paper t bs b out)
step_fits t bs b out = write_wider (step_answer paper t bs b out) (omega arith) (step_small t bs b out)

pub write_code-requires : goal.write_code-requires
write_code-requires c = rw c.step.ensures.0 (step_fits _ _ _ _)

pub returns : goal.returns
returns c = (c.write_code.ensures ∙ ap write_code c.step.ensures.0, c.step.ensures.1)
