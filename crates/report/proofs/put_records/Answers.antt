-- `put_records` meets its contract. The invariant: the lines of the records passed are written. Assumes nothing.
use Prim.Native.Nat.{◌+◌, ◌*◌}
use native.Mathlib.Omega.{arith}
use mathlib.Core.Path.{refl}
use Rattle.report.specs.Records.{planned_long, listed_none, next_room, listed_next, listed_all}
use Rattle.report.proofs.put_records.Goals as goal

pub loop-i-init : goal.loop-i-init
loop-i-init c rs p = listed_none _ _ p

pub overflow_mul-from : goal.overflow_mul-from
overflow_mul-from c = omega (arith, planned_long c.requires.0.planned)

pub overflow_add-from : goal.overflow_add-from
overflow_add-from c = omega (arith, planned_long c.requires.0.planned)

pub bounds-plan-from : goal.bounds-plan-from
bounds-plan-from c = omega (arith, planned_long c.requires.0.planned)

pub overflow_add-chosen : goal.overflow_add-chosen
overflow_add-chosen c = omega (arith, planned_long c.requires.0.planned)

pub unsigned_at-count-requires : goal.unsigned_at-count-requires
unsigned_at-count-requires c = omega (arith, planned_long c.requires.0.planned)

pub put_record-next-requires : goal.put_record-next-requires
put_record-next-requires c =
    let l = c.loop-i in
    ((c.type_inv.plan (10 * l.i + 1)).fits, omega (arith, c.requires.1, next_room (l.invariant c.requires.0.records c.requires.0.planned) c.requires.0.planned))

pub loop-i-preserved : goal.loop-i-preserved
loop-i-preserved c rs p =
    let count = c.unsigned_at-count in
    let l = c.loop-i in
    listed_next (l.invariant rs p) (omega (arith, p.many)) refl count.ensures.0 c.put_record-next.ensures

pub returns : goal.returns
returns c rs p = listed_all (c.loop-i.invariant rs p) (omega (arith, p.many))
