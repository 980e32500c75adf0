-- `read` meets its contract. Assumes nothing.
use mathlib.Core.Path.{sym, ◌∙◌}
use Rattle.std.proofs.lemmas.Result.{err_from_is_err_and}
use Rattle.model.specs.Limits.{paper}
use Rattle.ceiling.proofs.Theorems.Calls.{same_reading, turned_reading}
use Rattle.table.specs.Names.{wanted_of}
use Rattle.ceiling.specs.Heads.{ceiling_of}
use Rattle.rig.specs.Admission.{admitted, turned}
use Rattle.rig.proofs.read.Goals as goal

pub returns : goal.returns
unfolding wanted_of
returns c = c.read.ensures ∙ sym (same_reading (ceiling_of c.args.c) paper _ (admitted _ _ _ c.admit.ensures c.in_ok-admit.was)).answer

pub returns-in_err-admit : goal.returns-in_err-admit
unfolding wanted_of
returns-in_err-admit c =
    let p = err_from_is_err_and c.from_residual.result c.from_residual.ensures.1 in
    rw (p.1, p.2) (sym (turned_reading (ceiling_of c.args.c) paper _ _ (turned _ _ _ c.admit.ensures c.in_err-admit.was)).answer)
