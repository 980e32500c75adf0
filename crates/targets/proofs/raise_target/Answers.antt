-- `raise_target` meets its contract: the store is of the larger of the old target and the new one. Assumes nothing.
use Prim.Native.Nat.{◌^◌, ◌<◌}
use lib.IntN.{ℤ, pos}
use lib.ListN.{get_or}
use lib.Signed.{mag}
use Rattle.integer.specs.Linear.{back, larger, larger_cases}
use Rattle.integer.proofs.Operators.{max_larger}
use Rattle.targets.specs.Encoding.{raised_at}
use Rattle.targets.proofs.raise_target.Goals as goal

pub returns : goal.returns
unfolding raised_at
returns c =
    let a = c.args in
    let old = get_or a.target.now a.v (pos 0) in
    let before = back old c.old-1.given in
    let wanted = back a.z c.ranges.z.sfits in
    let larger_is = max_larger old a.z in
    let read = back (larger old a.z) (larger_cases old a.z (λ (m : ℤ). mag m < 2 ^ 63) (λ h. c.ranges.z.sfits) (λ h. c.old-1.given)) in
    cc
