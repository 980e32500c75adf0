-- `put_no_plan` meets its contract: one line. Assumes nothing.
use native.Mathlib.Omega.{arith}
use Rattle.model.specs.Listing.{layers_word, no_plan_word}
use Rattle.report.specs.Lines.{no_plan_text, line_room, no_plan_room}
use Rattle.report.proofs.put_no_plan.Goals as goal

pub put_line-requires : goal.put_line-requires
unfolding layers_word no_plan_word
put_line-requires c = omega (arith, line_room no_plan_word c.args.layers (omega arith))

pub returns : goal.returns
unfolding no_plan_text layers_word no_plan_word
returns c = (c.put_line.ensures, no_plan_room c.args.layers (omega arith))
