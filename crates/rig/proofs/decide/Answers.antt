-- `decide` meets its contract. Assumes nothing.
use mathlib.Core.Path.{sym}
use lib.Seq.{length-take-le}
use Rattle.std.proofs.lemmas.Result.{err_from_is_err_and}
use Rattle.model.specs.Limits.{paper}
use Rattle.ceiling.proofs.Theorems.Calls.{turned_planning}
use Rattle.model.specs.Theorems.Campaigns.Demand3.{decide_layers}
use Rattle.table.specs.Names.{wanted_of}
use Rattle.ceiling.specs.Heads.{ceiling_of}
use Rattle.ceiling.proofs.Numbers.{split}
use Rattle.rig.specs.Admission.{admitted, turned}
use Rattle.rig.specs.Planning.{decide_answers, decide_leaves}
use Rattle.rig.proofs.decide.Goals as goal

pub slice_bounds-decide-end : goal.slice_bounds-decide-end
slice_bounds-decide-end c = let a = c.args in (split a.c a.layers.now c.used-n.ensures).inside

pub slice_bounds-decide-end-2 : goal.slice_bounds-decide-end-2
slice_bounds-decide-end-2 c = let a = c.args in sym (length-take-le _ _ (split a.c a.layers.now c.used-n.ensures).inside)

pub returns : goal.returns
unfolding wanted_of
returns c =
    let a = c.args in
    let s = split a.c a.layers.now c.used-n.ensures in
    let h = admitted _ _ _ c.admit.ensures c.in_ok-admit.was in
    (decide_answers a.c _ _ _ s h c.decide.ensures.0, decide_leaves a.c _ _ _ s h c.decide.ensures.1, c.decide.ensures.2)

pub returns-in_err-admit : goal.returns-in_err-admit
unfolding wanted_of decide_layers
returns-in_err-admit c =
    let p = err_from_is_err_and c.from_residual.result c.from_residual.ensures.1 in
    let back = turned_planning (ceiling_of c.args.c) paper _ _ (turned _ _ _ c.admit.ensures c.in_err-admit.was) _ _ in
    rw (p.1, p.2) (sym back.decides, sym back.leaves, tt)
