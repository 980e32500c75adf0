-- `rig_campaign` meets its contract. Assumes nothing.
use mathlib.Core.Path.{sym}
use lib.Seq.{length-take-le}
use Rattle.table.specs.Names.{wanted_of}
use Rattle.ceiling.proofs.Numbers.{split}
use Rattle.rig.specs.Admission.{admitted, turned}
use Rattle.rig.specs.Campaign.{done_admitted, done_turned}
use Rattle.rig.proofs.rig_campaign.Goals as goal

pub slice_bounds-campaign-end : goal.slice_bounds-campaign-end
slice_bounds-campaign-end c = let a = c.args in (split a.c a.layers.now c.used-n.ensures).inside

pub slice_bounds-campaign-end-in-Ok : goal.slice_bounds-campaign-end-in-Ok
slice_bounds-campaign-end-in-Ok c = let a = c.args in sym (length-take-le _ _ (split a.c a.layers.now c.used-n.ensures).inside)

pub returns-in-Ok : goal.returns-in-Ok
unfolding wanted_of
returns-in-Ok c =
    let a = c.args in
    let s = split a.c a.layers.now c.used-n.ensures in
    let h = admitted _ _ _ c.admit.ensures c.in-Ok.is in
    done_admitted _ _ _ _ _ _ s h c.campaign.ensures

pub returns-in-Err : goal.returns-in-Err
unfolding wanted_of
returns-in-Err c = done_turned _ _ _ _ _ _ _ (turned _ _ _ c.admit.ensures c.in-Err.is)
