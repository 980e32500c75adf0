-- `terms_at` meets its contract. The invariant: in every reading of the part, `n` terms of the first item are passed.
-- The measure is what is left of the part. Assumes nothing.
use Prim.Native.Nat.{◌+◌}
use native.Mathlib.Omega.{arith}
use Rattle.model.specs.Task.{Block}
use Rattle.block.specs.Items.{Ranges, Left}
use Rattle.block.specs.Closing.{Passed, pass_start, pass_room, pass_step, pass_end}
use Rattle.block.proofs.terms_at.Goals as goal

pub loop-n-init : goal.loop-n-init
loop-n-init c = (omega arith, λ k rest l. pass_start c.requires.1 l)

pub loop-n-preserved : goal.loop-n-preserved
loop-n-preserved c =
    let step : (k : Ranges) (rest : Block) → Left k c.args.part.now c.args.at rest → Passed k c.args.part.now c.args.at (c.loop-n.n + 1) rest = λ k rest l. pass_step (c.loop-n.invariant.1 k rest l) c.loop-n-test.true in
    let r = c.requires.0 in
    (pass_room (step r.ranges r.rest r.left), step)

pub returns : goal.returns
returns c k rest l = pass_end (c.loop-n.invariant.1 k rest l) c.loop-n-test.false
