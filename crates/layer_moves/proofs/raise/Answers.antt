-- `raise` meets its contract. Assumes nothing.
use mathlib.Core.Path.{◌∙◌, sym, ap, ap₂}
use lib.IntN.{pos}
use lib.ListN.{get_or, set}
use Rattle.std.specs.Int.{int_max}
use Rattle.integer.specs.Linear.{back}
use Rattle.integer.proofs.Operators.{max_larger}
use Rattle.layer_moves.specs.Raising.{IsOffer, raisable_summable, raisable_row, raisable_next, raisable_base, raised_by, raised_already}
use native.Mathlib.Omega.{arith}
use Rattle.layer_moves.proofs.raise.Goals as goal

pub offset_bounds-next-var : goal.offset_bounds-next-var
offset_bounds-next-var c = omega (arith, raisable_next c.requires)

pub slice_copy_out-so_far : goal.slice_copy_out-so_far
slice_copy_out-so_far c = raisable_next c.requires

pub returns-then-is_unbounded : goal.returns-then-is_unbounded
returns-then-is_unbounded c =
    let test = rw (back _ c.so_far-1.given) at c.is_unbounded.ensures in
    raised_already (sym test ∙ c.if-is_unbounded.true)

pub layer_value-value-requires : goal.layer_value-value-requires
layer_value-value-requires c = rw (back c.args.base c.ranges.base.sfits) (raisable_summable c.requires, raisable_base c.requires)

pub offset_bounds-row-var : goal.offset_bounds-row-var
offset_bounds-row-var c = omega (arith, raisable_row c.requires)

pub bounds-row-var : goal.bounds-row-var
bounds-row-var c = raisable_row c.requires

pub returns : goal.returns
returns c =
    let a = c.args in
    let v = c.layer_value-value in
    let z = c.offer-offered.result in
    let value = rw (back a.base c.ranges.base.sfits) at v.ensures in
    let offered : IsOffer a.kind v.result (get_or a.row.now a.var (pos 0)) z =
    rw (back v.result v.type_inv, back _ c.old-1.given) at c.offer-offered.ensures in
    let so_far = get_or a.next.now a.var (pos 0) in
    raised_by value offered
    (ap (set a.next.now a.var)
    (
    back c.max.result c.max.type_inv
    ∙ c.max.ensures.value ∙ ap₂ int_max (back so_far c.so_far-1.given) (back z c.offer-offered.type_inv)
    ∙ max_larger so_far z
    ))
