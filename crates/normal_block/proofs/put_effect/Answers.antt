-- `put_effect` meets its contract: the sum, then the command that closes it. Assumes nothing.
use native.Mathlib.Omega.{arith}
use Rattle.integer.specs.Linear.{back}
use Rattle.model.specs.Command.{code_of}
use Rattle.output.specs.Writing.{written_join}
use Rattle.normal_condition.specs.Sums.{close_short}
use Rattle.normal_block.specs.Effects.{effect_bytes}
use Rattle.normal_block.proofs.put_effect.Goals as goal

pub put_pair-changed-requires : goal.put_pair-changed-requires
put_pair-changed-requires c = omega (arith, close_short _ c.requires.0 c.requires.1 c.put_sum-close.ensures)

pub put_byte-base-requires : goal.put_byte-base-requires
put_byte-base-requires c =
    let close = close_short _ c.requires.0 c.requires.1 c.put_sum-close.ensures in
    omega (arith, close, c.put_pair-changed.ensures.behind)

pub put_i32-requires : goal.put_i32-requires
put_i32-requires c =
    let close = close_short _ c.requires.0 c.requires.1 c.put_sum-close.ensures in
    rw (back c.args.c c.ranges.c.sfits)
    (omega (arith, close, c.put_pair-changed.ensures.behind, c.put_byte-base.ensures.behind), omega (arith, c.requires.3))

pub returns : goal.returns
unfolding effect_bytes code_of
returns c =
    written_join c.put_sum-close.ensures
    (written_join c.put_pair-changed.ensures
    (written_join c.put_byte-base.ensures (rw (back c.args.c c.ranges.c.sfits) at c.put_i32.ensures)))
