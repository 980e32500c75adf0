-- `normalise` meets its contract: a refusal of the table, or what `write` answers. Assumes nothing.
use native.Mathlib.Omega.{arith}
use Rattle.std.proofs.lemmas.Result.{err_from_is_err_and}
use Rattle.model.specs.Task.{written}
use Rattle.table.specs.Names.{wanted_of}
use Rattle.table.specs.Outlines.{head_read, head_refused}
use Rattle.normal.specs.Heads.{normalise_written, normalise_refused}
use Rattle.normal.proofs.normalise.Goals as goal

pub write-requires : goal.write-requires
unfolding wanted_of
write-requires c = rw c.new.ensures (head_read written c.outline.ensures c.in_ok-head.was (record { each = λ i. omega (arith, c.type_inv.table i) }))

pub returns : goal.returns
unfolding wanted_of
returns c =
    let h = head_read written c.outline.ensures c.in_ok-head.was (record { each = λ i. omega (arith, c.type_inv.table i) }) in
    normalise_written h (rw c.new.ensures at c.write.ensures)

pub returns-in_err-head : goal.returns-in_err-head
unfolding wanted_of
returns-in_err-head c =
    let p = err_from_is_err_and c.from_residual.result c.from_residual.ensures.1 in
    rw (p.1, p.2) (normalise_refused c.args.table.now c.args.out.now (head_refused written c.outline.ensures c.in_err-head.was))
