-- `run` meets its contract. The invariant: in every reading, the items that are left decide, and those passed are taken in. The measure is
-- what is left of the part. Assumes nothing.
use Prim.Native.Nat.{ℕ, ◌<◌}
use native.Mathlib.Omega.{arith}
use mathlib.Core.Path.{refl}
use mathlib.Core.List.{List}
use mathlib.Core.Bool.{Bool}
use lib.IntN.{ℤ}
use lib.ListN.{length}
use Rattle.integer.specs.Linear.{back_small}
use Rattle.model.specs.Lists.{all}
use Rattle.model.specs.Move.{applicable}
use Rattle.model.proofs.Theorems.Laws.Booleans.{clash}
use Rattle.block.specs.Items.{next_ahead}
use Rattle.block.specs.Blocks.{walk_start, walk_next, walk_stop, walk_done}
use Rattle.block.specs.Streams.{Addable, sum_item, Over, Asked, Judged}
use Rattle.real_move.specs.Running.{Runnable}
use Rattle.real_move.specs.Walking.{Going, going_start, going_end}
use Rattle.real_move.proofs.run.Goals as goal

-- the items that are left, in the caller's reading
left_here :
    {part : List ℕ} {values : List ℤ} {has₀ has : List Bool} {next₀ next : List ℤ} {from : ℕ}
    → Going part values has₀ next₀ from has next
    → Runnable part values has₀ next₀
    → from < length part
    → Addable part from values
left_here g o inside =
    let w = g.is o.ranges o.block o.over o.runs in
    record { inside = inside; ranges = o.ranges; rest = w.rest; left = w.left; val = o.over.val; row = o.runs.row }

pub loop-from-init : goal.loop-from-init
loop-from-init c =
    let within = c.requires.runnable.runs.left.bytes.within in
    (walk_start (Over _ _) Asked within, going_start within)

pub sum_at-sum-requires : goal.sum_at-sum-requires
sum_at-sum-requires c = left_here c.loop-from.invariant.1 c.requires.runnable c.loop-from-test.true

pub fails-requires : goal.fails-requires
unfolding left_here
fails-requires c =
    let p = c.requires in
    let total = c.sum_at-sum.result.total in
    let judged : Judged c.args.part.now c.loop-from.from c.sum_at-sum.result.terms total c.args.state.now.has =
    record {
      values = c.args.state.now.values;
      addable = left_here c.loop-from.invariant.1 p.runnable c.loop-from-test.true;
      sum = c.sum_at-sum.ensures;
      over = p.runnable.over;
      row = p.row;
    } in
    rw (back_small total (omega (arith, c.sum_at-sum.ensures.sum.small))) judged

pub returns-then-fails : goal.returns-then-fails
unfolding applicable
returns-then-fails c =
    let left = left_here c.loop-from.invariant.1 c.requires.runnable c.loop-from-test.true in
    let told = rw (back_small c.sum_at-sum.result.total (omega (arith, c.sum_at-sum.ensures.sum.small))) at c.fails.ensures in
    record {
      test = record { is = walk_stop (Over _ _) Asked c.loop-from.invariant.0 (sum_item left c.sum_at-sum.ensures) ((told.is _ c.sum_at-sum.ensures).0 c.if-fails.true) };
      ran = λ e. clash cc;
    }

pub loop-from-smaller : goal.loop-from-smaller
loop-from-smaller c =
    let left = left_here c.loop-from.invariant.1 c.requires.runnable c.loop-from-test.true in
    let same = back_small c.sum_at-sum.result.total (omega (arith, c.sum_at-sum.ensures.sum.small)) in
    let t = (rw same at c.take_in-from.ensures).is c.loop-from-test.true c.sum_at-sum.ensures _ _ c.loop-from.invariant.1 c.requires.runnable in
    omega (arith, t.0, next_ahead c.loop-from-test.true (sum_item left c.sum_at-sum.ensures))

pub loop-from-preserved : goal.loop-from-preserved
loop-from-preserved c =
    let left = left_here c.loop-from.invariant.1 c.requires.runnable c.loop-from-test.true in
    let same = back_small c.sum_at-sum.result.total (omega (arith, c.sum_at-sum.ensures.sum.small)) in
    let t = (rw same at c.take_in-from.ensures).is c.loop-from-test.true c.sum_at-sum.ensures _ _ c.loop-from.invariant.1 c.requires.runnable in
    let told = rw same at c.fails.ensures in (
      rw t.0 (walk_next (Over _ _) Asked c.loop-from.invariant.0 c.loop-from-test.true (sum_item left c.sum_at-sum.ensures) ((told.is _ c.sum_at-sum.ensures).1 c.if-fails.false)),
      t.1,
    )

pub returns : goal.returns
unfolding applicable all
returns c =
    record {
      test = record { is = walk_done (Over _ _) Asked c.loop-from.invariant.0 c.loop-from-test.false (λ s. refl) };
      ran = λ e. going_end c.loop-from.invariant.1 c.loop-from-test.false;
    }
