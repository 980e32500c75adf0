-- `build` meets its contract. Assumes nothing.
use Prim.Native.Nat.{◌+◌, ◌-◌}
use mathlib.Core.Path.{◌≡◌}
use Rattle.model.specs.Task.{normal, Task}
use Rattle.table.specs.Outlines.{Outline}
use Rattle.layer_step.specs.Step.{Counts}
use Rattle.layers.specs.Building.{Layered}
use Rattle.layers.specs.Starting.{start_of, props_small, vars_small, moves_small, half_vars, state_long, first_layer, first_short, first_stored}
use borrow.Rule.Slice.PartMut.{put_mid, same_len_mid, mid_len}
use lib.ListN.{length}
use native.Mathlib.Omega.{arith}
use Rattle.layers.proofs.build.Goals as goal
use Rattle.layers.proofs.build.Goals.{After-copy_row, After-note}

pub overflow_add-front : goal.overflow_add-front
overflow_add-front c = omega (arith, props_small c.requires, moves_small c.requires)

pub overflow_add-front-2 : goal.overflow_add-front-2
overflow_add-front-2 c = omega (arith, props_small c.requires, moves_small c.requires, vars_small c.requires)

pub returns-then-layers-front : goal.returns-then-layers-front
returns-then-layers-front c = rw c.at.ensures (record { is = λ k o n. first_short o.ok n c.args.state.now c.requires.accepted c.if-layers-front.true })

pub load_truths-requires : goal.load_truths-requires
load_truths-requires c = (omega (arith, state_long c.requires), props_small c.requires)

pub load_signed-requires : goal.load_signed-requires
load_signed-requires c = (state_long c.requires, omega (arith, half_vars c.requires, vars_small c.requires))

pub copy_row-requires : goal.copy_row-requires
copy_row-requires c =
    let l = c.args.layers.now in (
      omega (arith, c.load_signed.auto.values, vars_small c.requires),
      omega (arith, mid_len (c.args.blocks.now.props + c.args.blocks.now.moves) (length l) l (omega arith), c.if-layers-front.false),
    )

row_long : (c : After-copy_row) → length (put_mid (c.args.blocks.now.props + c.args.blocks.now.moves) (length c.args.layers.now - (c.args.blocks.now.props + c.args.blocks.now.moves)) c.args.layers.now c.copy_row.new.into) ≡ length c.args.layers.now
row_long c = let a = c.args in same_len_mid (a.blocks.now.props + a.blocks.now.moves) (length a.layers.now - (a.blocks.now.props + a.blocks.now.moves)) a.layers.now c.copy_row.new.into c.copy_row.auto.into

pub clear-requires : goal.clear-requires
clear-requires c =
    omega (arith, row_long (goal.at.clear-requires c).After-copy_row, c.if-layers-front.false)

pub note-requires : goal.note-requires
note-requires c = (
  omega (arith, c.clear.auto.entries, row_long (goal.at.note-requires c).After-copy_row, c.if-layers-front.false),
  omega (arith, c.load_truths.auto.has, props_small c.requires),
  omega arith,
)

stored : (c : After-note) → (k : Task) → let a = c.args in Outline normal a.blocks.now.table.now a.blocks.now.marks.now k → Counts k a.blocks.now.props a.blocks.now.vars a.blocks.now.moves → Layered k (start_of a.blocks.now.props a.state.now) a.layers.now 0 c.note.new.entries c.load_truths.new.has c.load_signed.new.values
stored c = λ k o n. let a = c.args in
    let p = c.requires in
    first_stored o.ok n a.state.now p.accepted c.if-layers-front.false
    (first_layer o.ok n a.state.now p.accepted _ _
    (omega (arith, c.load_truths.auto.has, props_small p))
    (omega (arith, c.load_signed.auto.values, vars_small p))
    c.load_truths.ensures
    c.load_signed.ensures)
    c.copy_row.ensures
    c.clear.ensures
    c.note.ensures

pub grow-requires : goal.grow-requires
grow-requires c =
    let a = c.args in
    let p = c.requires in
    record {
      task = p.task;
      start = start_of a.blocks.now.props a.state.now;
      old = a.layers.now;
      outlined = p.outlined;
      counts = p.counts;
      layered = stored (goal.at.grow-requires c).After-note p.task p.outlined p.counts;
    }

pub returns : goal.returns
returns c =
    let a = c.args in
    record {
      is = λ k o n. c.grow.ensures.is k (start_of a.blocks.now.props a.state.now) a.layers.now o n (stored (goal.at.returns c).After-note k o n);
    }
