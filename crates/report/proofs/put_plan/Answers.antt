-- `put_plan` meets its contract: one line. Assumes nothing.
use native.Mathlib.Omega.{arith}
use Rattle.model.specs.Listing.{plan_word, layers_word}
use Rattle.report.specs.Lines.{plan_line, pair_room, plan_room}
use Rattle.report.proofs.put_plan.Goals as goal

pub put_pair-requires : goal.put_pair-requires
unfolding plan_word layers_word
put_pair-requires c =
    let a = c.args in
    omega (arith, pair_room plan_word a.records layers_word a.layers (omega arith) (omega arith))

pub returns : goal.returns
unfolding plan_line plan_word layers_word
returns c = (c.put_pair.ensures, plan_room c.args.records c.args.layers (omega arith) (omega arith))
