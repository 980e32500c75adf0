-- `make_move` meets its contract: the move is missing, or what becomes of the part that the offsets give. Assumes nothing.
use native.Mathlib.Omega.{arith}
use Rattle.transition.specs.Turns.{block_in, turned_missing, turn_movable, turned_moved}
use Rattle.transition.proofs.make_move.Goals as goal

pub returns-then-chosen-blocks : goal.returns-then-chosen-blocks
returns-then-chosen-blocks c = turned_missing c.if-chosen-blocks.true

pub part-part-requires : goal.part-part-requires
part-part-requires c = block_in c.requires.read c.args.chosen (omega (arith, c.if-chosen-blocks.false))

pub make-requires : goal.make-requires
make-requires c = turn_movable c.if-chosen-blocks.false c.part-part.ensures.0 c.requires

pub returns : goal.returns
returns c = turned_moved c.if-chosen-blocks.false c.part-part.ensures.0 c.make.ensures
