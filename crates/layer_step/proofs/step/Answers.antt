-- `step` meets its contract. Assumes nothing.
use native.Mathlib.Omega.{arith}
use Prim.Native.Nat.{◌≤◌}
use mathlib.Core.Path.{refl, ap}
use lib.ListN.{length}
use Rattle.layer_step.specs.Step.{steppable_row, stepped_same, stepped_large, stepped_short, stepped_new}
use Rattle.layer_step.proofs.step.Goals as goal
use Rattle.layer_step.proofs.step.Goals.{After-use_moves}

-- there is room for the next layer's values
row_room : (c : After-use_moves) → c.args.blocks.now.vars ≤ length c.use_moves.new.next.row
row_room c = omega (arith, steppable_row c.requires, c.use_moves.ensures.same_values)

pub returns-then-settled : goal.returns-then-settled
returns-then-settled c = (stepped_same c.use_moves.ensures c.settled.ensures c.if-settled.true, refl)

pub returns-then-not-all_within : goal.returns-then-not-all_within
returns-then-not-all_within c =
    (stepped_large c.use_moves.ensures c.settled.ensures c.if-settled.false c.all_within.ensures c.if-not-all_within.true, refl)

pub returns-then-behind-blocks : goal.returns-then-behind-blocks
returns-then-behind-blocks c =
    (stepped_short c.use_moves.ensures c.settled.ensures c.if-settled.false c.all_within.ensures c.if-not-all_within.false c.if-behind-blocks.true, refl)

pub copy_row-requires : goal.copy_row-requires
copy_row-requires c = (omega (arith, row_room (goal.at.copy_row-requires c).After-use_moves), omega (arith, c.if-behind-blocks.false))

pub returns : goal.returns
returns c = (
  stepped_new c.use_moves.ensures c.settled.ensures c.if-settled.false c.all_within.ensures c.if-not-all_within.false c.if-behind-blocks.false c.copy_row.ensures,
  (row_room (goal.at.returns c).After-use_moves, c.copy_row.ensures),
)
