-- `raise_sum` meets its contract. Assumes nothing.
use Prim.Native.Nat.{◌+◌, ◌*◌, ◌≤◌}
use native.Mathlib.Omega.{arith}
use mathlib.Core.Path.{◌≡◌, sym, ap, ◌∙◌}
use lib.IntN.{pos, nat_abs, ◌-ℤ◌}
use lib.ListN.{get_or}
use mir.Syntax.{w64}
use mir.Val.{to_z}
use Rattle.integer.specs.Linear.{back, back_small, small_fits, abs_sub}
use Rattle.block.specs.Sums.{is_mark, few_terms}
use Rattle.targets.specs.Wanting.{sum_limit, wanted_start, wanted_end, wanted_term, wanted_rest, wanted_by_rest, wanted_read, wanted_next, read_small}
use Rattle.targets.specs.Encoding.{raised_at_lem}
use Rattle.targets.proofs.raise_sum.Goals as goal

pub loop-i-init : goal.loop-i-init
loop-i-init c =
    record {
      few = few_terms c.requires.0.it.terms;
      size = rw (back c.args.c c.ranges.c.sfits) (omega (arith, c.requires.1));
      done = λ ps x. wanted_start x _;
    }

pub overflow_add-at : goal.overflow_add-at
overflow_add-at c =
    omega (arith, (c.loop-i.invariant.done c.requires.0.props c.requires.0.it).terms.bytes.within)

pub variable-v-requires : goal.variable-v-requires
variable-v-requires c =
    wanted_term _ _ (c.loop-i.invariant.done c.requires.0.props c.requires.0.it) c.loop-i-test.true

pub bounds-row-v : goal.bounds-row-v
bounds-row-v c =
    (wanted_read _ _ (c.loop-i.invariant.done c.requires.0.props c.requires.0.it) c.loop-i-test.true c.variable-v.ensures).room

pub offset_bounds-row-v : goal.offset_bounds-row-v
offset_bounds-row-v c = omega (arith, bounds-row-v c)

pub raise_unbounded-requires : goal.raise_unbounded-requires
raise_unbounded-requires c =
    let mark : c.is_unbounded.result ≡ is_mark (get_or c.args.row.now c.variable-v.result (pos 0)) = c.is_unbounded.ensures ∙ ap is_mark (back _ c.x-1.given) in
    record {
      wantable = record { props = c.requires.0.props; it = wanted_rest _ _ (c.loop-i.invariant.done c.requires.0.props c.requires.0.it) };
      some = omega arith;
      variable = c.variable-v.ensures;
      mark = sym mark ∙ c.if-is_unbounded.true;
      size = omega arith;
    }

pub returns-then-is_unbounded : goal.returns-then-is_unbounded
returns-then-is_unbounded c ps x =
    let d = c.loop-i.invariant.done ps x in
    rw (back c.args.c c.ranges.c.sfits) at
    (wanted_by_rest x _ d (c.raise_unbounded.ensures ps (wanted_rest x _ d)))

pub scaled-left-requires : goal.scaled-left-requires
scaled-left-requires c =
    let mark : c.is_unbounded.result ≡ is_mark (get_or c.args.row.now c.variable-v.result (pos 0)) = c.is_unbounded.ensures ∙ ap is_mark (back _ c.x-1.given) in
    rw (back _ c.x-1.given) (
      wanted_term _ _ (c.loop-i.invariant.done c.requires.0.props c.requires.0.it) c.loop-i-test.true,
      read_small (wanted_read _ _ (c.loop-i.invariant.done c.requires.0.props c.requires.0.it) c.loop-i-test.true c.variable-v.ensures) (sym mark ∙ c.if-is_unbounded.false),
    )

pub overflow_sub-left : goal.overflow_sub-left
overflow_sub-left c =
    let t = to_z w64 c.loop-i.left-bits in
    let s = c.scaled-left.result in
    rw (back s c.scaled-left.type_inv) (small_fits (t -ℤ s) (omega (arith, abs_sub t s, c.scaled-left.ensures.small)))

pub raise_target-requires : goal.raise_target-requires
raise_target-requires c =
    omega (arith, (wanted_read _ _ (c.loop-i.invariant.done c.requires.0.props c.requires.0.it) c.loop-i-test.true c.variable-v.ensures).small, (c.loop-i.invariant.done c.requires.0.props c.requires.0.it).encoded.few_vars)

pub loop-i-preserved : goal.loop-i-preserved
loop-i-preserved c =
    let mark : c.is_unbounded.result ≡ is_mark (get_or c.args.row.now c.variable-v.result (pos 0)) = c.is_unbounded.ensures ∙ ap is_mark (back _ c.x-1.given) in
    let t = to_z w64 c.loop-i.left-bits in
    let s = c.scaled-left.result in
    let size : nat_abs (t -ℤ s) ≤ sum_limit + (c.loop-i.i + 1) * 1000000000000000 = omega (arith, abs_sub t s, c.scaled-left.ensures.small) in
    let product = rw (back _ c.x-1.given) at c.scaled-left.ensures in
    let raised = rw (back _ c.x-1.given) at c.raise_target.ensures in
    rw (back s c.scaled-left.type_inv, back_small (t -ℤ s) (omega (arith, size))) (record {
      few = c.loop-i.invariant.few;
      size = size;
      done =
          λ ps x.
          wanted_next x _ (c.loop-i.invariant.done ps x) c.loop-i-test.true c.variable-v.ensures (sym mark ∙ c.if-is_unbounded.false) (raised_at_lem raised) product;
    })

pub returns : goal.returns
returns c ps x = rw (back c.args.c c.ranges.c.sfits) at (wanted_end x _ (c.loop-i.invariant.done ps x) c.loop-i-test.false)
