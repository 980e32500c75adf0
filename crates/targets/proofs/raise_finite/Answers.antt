-- `raise_finite` meets its contract. Assumes nothing.
use native.Mathlib.Omega.{arith}
use mathlib.Core.Path.{◌≡◌, sym, ap, ◌∙◌}
use lib.IntN.{pos}
use lib.ListN.{get_or}
use Rattle.integer.specs.Linear.{back}
use Rattle.block.specs.Sums.{is_mark, few_terms}
use Rattle.targets.specs.Wanting.{finitely_start, finitely_end, finitely_term, finitely_read, finitely_skip, finitely_raise}
use Rattle.targets.specs.Encoding.{raised_at_lem}
use Rattle.targets.proofs.raise_finite.Goals as goal

pub loop-i-init : goal.loop-i-init
loop-i-init c = record { few = few_terms c.requires.it.terms; done = λ ps x. finitely_start x }

pub overflow_add-terms : goal.overflow_add-terms
overflow_add-terms c =
    omega (arith, (c.loop-i.invariant.done c.requires.props c.requires.it).terms.bytes.within)

pub variable-v-requires : goal.variable-v-requires
variable-v-requires c =
    finitely_term _ (c.loop-i.invariant.done c.requires.props c.requires.it) c.loop-i-test.true

pub bounds-row-v : goal.bounds-row-v
bounds-row-v c =
    (finitely_read _ (c.loop-i.invariant.done c.requires.props c.requires.it) c.loop-i-test.true c.variable-v.ensures).room

pub offset_bounds-row-v : goal.offset_bounds-row-v
offset_bounds-row-v c = omega (arith, bounds-row-v c)

pub raise_target-requires : goal.raise_target-requires
raise_target-requires c =
    omega (arith, (finitely_read _ (c.loop-i.invariant.done c.requires.props c.requires.it) c.loop-i-test.true c.variable-v.ensures).small, (c.loop-i.invariant.done c.requires.props c.requires.it).encoded.few_vars)

pub loop-i-preserved-then-is_unbounded : goal.loop-i-preserved-then-is_unbounded
loop-i-preserved-then-is_unbounded c =
    let mark : c.is_unbounded.result ≡ is_mark (get_or c.args.row.now c.variable-v.result (pos 0)) = c.is_unbounded.ensures ∙ ap is_mark (back _ c.x-1.given) in
    record { few = c.loop-i.invariant.few; done = λ ps x. finitely_skip x (c.loop-i.invariant.done ps x) c.loop-i-test.true c.variable-v.ensures (sym mark ∙ c.if-is_unbounded.true) }

pub loop-i-preserved : goal.loop-i-preserved
loop-i-preserved c =
    let mark : c.is_unbounded.result ≡ is_mark (get_or c.args.row.now c.variable-v.result (pos 0)) = c.is_unbounded.ensures ∙ ap is_mark (back _ c.x-1.given) in
    record {
      few = c.loop-i.invariant.few;
      done =
          λ ps x.
          finitely_raise x (c.loop-i.invariant.done ps x) c.loop-i-test.true c.variable-v.ensures (sym mark ∙ c.if-is_unbounded.false)
          (raised_at_lem (rw (back _ c.x-1.given) at c.raise_target.ensures));
    }

pub returns : goal.returns
returns c ps x = finitely_end x (c.loop-i.invariant.done ps x) c.loop-i-test.false
