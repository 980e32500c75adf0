-- `count_moves` meets its contract. The invariant: the moves before `b` are counted. Assumes nothing.
use native.Mathlib.Omega.{arith}
use Rattle.block.specs.Items.{readable}
use Rattle.rewrite.specs.Stored.{counting_step, counting_end, kept_most, move_in}
use Rattle.rewrite.proofs.count_moves.Goals as goal

pub count_kept-kept-requires : goal.count_kept-kept-requires
count_kept-kept-requires c = readable (move_in c.requires c.loop-b.b c.loop-b-test.true c.part.ensures.0)

pub overflow_add-kept : goal.overflow_add-kept
overflow_add-kept c =
    let counted = c.count_kept-kept.ensures.is _ _ (move_in c.requires c.loop-b.b c.loop-b-test.true c.part.ensures.0) in
    omega (arith, kept_most c.requires, (counting_step c.loop-b.invariant (omega (arith, c.loop-b-test.true, c.requires.count)) counted).same)

pub loop-b-preserved : goal.loop-b-preserved
loop-b-preserved c =
    let counted = c.count_kept-kept.ensures.is _ _ (move_in c.requires c.loop-b.b c.loop-b-test.true c.part.ensures.0) in
    counting_step c.loop-b.invariant (omega (arith, c.loop-b-test.true, c.requires.count)) counted

pub returns : goal.returns
returns c = counting_end c.loop-b.invariant (omega (arith, c.loop-b-test.false, c.requires.count))
