-- `put_mirrored` meets its contract: two effects side by side. Assumes nothing.
use Prim.Native.Nat.{◌*◌}
use native.Mathlib.Omega.{arith}
use Rattle.integer.specs.Linear.{abs_neg, back}
use Rattle.output.specs.Writing.{written_join}
use Rattle.normal_condition.proofs.Signed.{neg_back}
use Rattle.normal_block.specs.Effects.{mirror_bytes, effect_long}
use Rattle.normal_block.proofs.put_mirrored.Goals as goal

pub put_effect-requires : goal.put_effect-requires
put_effect-requires c =
    let first = rw (back c.args.c c.ranges.c.sfits) at c.put_effect-next.ensures in
    rw (neg_back c.args.c (omega (arith, c.requires.3))) (
      c.requires.0,
      omega (arith, c.requires.1, first.behind, effect_long c.args.negated c.requires.0 c.args.kind (2 * c.args.var) c.args.c),
      omega (arith, c.requires.2),
      omega (arith, abs_neg c.args.c, c.requires.3),
    )

pub returns : goal.returns
unfolding mirror_bytes
returns c =
    let a = c.args in
    let second = rw (neg_back a.c (omega (arith, c.requires.3))) at c.put_effect.ensures in
    written_join (rw (back a.c c.ranges.c.sfits) at c.put_effect-next.ensures) second
