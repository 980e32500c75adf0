-- `put_table` meets its contract: the head, the moves that are kept, the goal, the end. Assumes nothing.
use native.Mathlib.Omega.{arith}
use Rattle.model.specs.Command.{code_of}
use Rattle.rewrite.specs.Stored.{whole_written, few_moves, kept_most, kept_short, part_short, table_size}
use Rattle.rewrite.proofs.put_table.Goals as goal

pub put_head-start-requires : goal.put_head-start-requires
put_head-start-requires c = (omega (arith, table_size c.requires.0), omega (arith, kept_most c.requires.0, few_moves c.requires.0, c.requires.1))

pub put_bytes-end-requires : goal.put_bytes-end-requires
put_bytes-end-requires c =
    let h = c.requires.0 in
    let goal = part_short h c.args.blocks.now.moves (omega arith) c.part.ensures.0 in
    omega (arith, c.put_head-start.ensures.behind, c.put_moves-goal.ensures.behind, kept_short h, goal)

pub put_byte-requires : goal.put_byte-requires
put_byte-requires c =
    let h = c.requires.0 in
    let goal = part_short h c.args.blocks.now.moves (omega arith) c.part.ensures.0 in
    omega (arith, c.put_head-start.ensures.behind, c.put_moves-goal.ensures.behind, c.put_bytes-end.ensures.behind, kept_short h, goal)

pub returns : goal.returns
unfolding code_of
returns c =
    whole_written c.requires.0 c.requires.1 c.part.ensures.0
    c.put_head-start.ensures
    c.put_moves-goal.ensures
    c.put_bytes-end.ensures
    c.put_byte.ensures
