-- `rewrite` meets its contract: a refusal of the table, or what `write` answers. Assumes nothing.
use native.Mathlib.Omega.{arith}
use mathlib.Core.Path.{sym, ◌∙◌}
use lib.ListN.{length}
use Rattle.std.proofs.lemmas.Result.{err_from_is_err_and}
use Rattle.integer.specs.BigEndian.{AllBytes}
use Rattle.model.specs.Limits.{paper}
use Rattle.model.proofs.Theorems.Printing.Passing.{paper_small}
use Rattle.model.proofs.Theorems.Rewriting.Accepted.{rewrite_right}
use Rattle.table.specs.Names.{wanted_of}
use Rattle.table.specs.Answer.{answer_refused}
use Rattle.table.specs.Outlines.{stored_read}
use Rattle.rewrite.specs.Stored.{read_stored}
use Rattle.rewrite.specs.Answers.{rewrite_written, rewrite_refused}
use Rattle.rewrite.proofs.rewrite.Goals as goal

pub write-requires : goal.write-requires
unfolding wanted_of
write-requires c = rw c.new.ensures (read_stored (stored_read c.outline.ensures c.in_ok-head.was (record { each = λ i. omega (arith, c.type_inv.table i) })))

pub returns : goal.returns
unfolding wanted_of
returns c =
    let all : AllBytes c.args.table.now = record { each = λ i. omega (arith, c.type_inv.table i) } in
    let w = rewrite_written (stored_read c.outline.ensures c.in_ok-head.was all) (rw c.new.ensures at c.write.ensures) in
    (w.0, w.1, rewrite_right paper paper_small c.args.table.now all (length c.args.out.now))

pub returns-in_err-head : goal.returns-in_err-head
unfolding wanted_of
returns-in_err-head c =
    let all : AllBytes c.args.table.now = record { each = λ i. omega (arith, c.type_inv.table i) } in
    let p = err_from_is_err_and c.from_residual.result c.from_residual.ensures.1 in
    let w = rewrite_refused c.args.table.now c.args.out.now (answer_refused _ _ (sym c.outline.ensures.answer ∙ c.in_err-head.was)) in
    rw (p.1, p.2) (w.0, w.1, rewrite_right paper paper_small c.args.table.now all (length c.args.out.now))
