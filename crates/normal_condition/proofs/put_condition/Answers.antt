-- `put_condition` meets its contract: the sum, then the command that closes it. Assumes nothing.
use native.Mathlib.Omega.{arith}
use mathlib.Core.Path.{sym}
use Rattle.integer.specs.Linear.{back}
use Rattle.model.specs.Command.{code_of}
use Rattle.output.specs.Writing.{written_join, written_same}
use Rattle.block.specs.Terms.{terms_at}
use Rattle.normal_condition.specs.Sums.{close_short}
use Rattle.normal_condition.specs.Conditions.{least_bytes}
use Rattle.normal_condition.proofs.put_condition.Goals as goal

pub put_pair-bound-requires : goal.put_pair-bound-requires
put_pair-bound-requires c = omega (arith, close_short _ c.requires.0 c.requires.1 c.put_sum-close.ensures)

pub put_i32-requires : goal.put_i32-requires
put_i32-requires c =
    let close = close_short _ c.requires.0 c.requires.1 c.put_sum-close.ensures in
    rw (back c.args.c c.ranges.c.sfits) (omega (arith, close, c.put_pair-bound.ensures.behind), omega (arith, c.requires.2))

pub returns : goal.returns
unfolding code_of
returns c =
    let a = c.args in
    written_same
    (written_join c.put_sum-close.ensures
    (written_join c.put_pair-bound.ensures (rw (back a.c c.ranges.c.sfits) at c.put_i32.ensures)))
    (sym (least_bytes a.negated (terms_at a.terms.now.part.now a.terms.now.from a.terms.now.count) a.c))
