-- `pddl` meets its contract: a refusal of the table, one of the state, or what `write` answers. Assumes nothing.
use Rattle.std.specs.Prelude.{ℕ, ◌≡◌, List, get_or, Result, Ok}
use Rattle.std.proofs.Common.{arith, Fits, w8}
use Rattle.std.proofs.lemmas.Result.{err_from_is_err_and}
use Rattle.model.specs.declared.Head.{Head}
use Rattle.model.specs.declared.Refusal.{Refusal}
use Rattle.model.specs.Limits.{paper}
use Rattle.model.specs.Reading.{only, reading}
use Rattle.model.specs.Task.{written}
use Rattle.state.specs.Checking.{check_accepted, check_refused}
use Rattle.table.specs.Answer.{Outlined}
use Rattle.table.specs.Names.{wanted_of}
use Rattle.table.specs.Outlines.{HeadRead, head_read, head_refused}
use Rattle.output.specs.Answers.{answered_same, answered_refused}
use Rattle.pddl_text.specs.Printable.{few_props, few_vars}
use Rattle.pddl.specs.Calls.{text_refused, text_written, pddl_answered, pddl_refused}
use Rattle.pddl.proofs.pddl.Goals as goal

-- an accepted table, whose bytes are bytes
accepted :
    {t marks : List ℕ} {r : Result Head Refusal} {h : Head}
    → Outlined t (reading paper (only written) t) r marks
    → r ≡ Ok h
    → ((i : ℕ) → Fits w8 (get_or t i 0))
    → HeadRead written t marks h.props h.vars h.moves
accepted o e bytes = head_read written o e (record { each = λ i. omega (arith, bytes i) })

pub check-requires : goal.check-requires
unfolding wanted_of
check-requires c =
    let h = accepted c.outline.ensures c.in_ok-head.was c.type_inv.table in
    rw c.new-blocks.ensures (few_props h, few_vars h)

pub write-requires : goal.write-requires
unfolding wanted_of
write-requires c =
    rw c.new-blocks.ensures (record {
      read = accepted c.outline.ensures c.in_ok-head.was c.type_inv.table;
      state = check_accepted (rw c.new-blocks.ensures at c.check.ensures) c.in_ok-check.was;
    })

pub returns : goal.returns
unfolding wanted_of
returns c =
    let h = accepted c.outline.ensures c.in_ok-head.was c.type_inv.table in
    let a = c.args in
    pddl_answered a.table.now a.state.now
    (answered_same (rw c.new-blocks.ensures at c.write.ensures) (text_written h a.state.now (check_accepted (rw c.new-blocks.ensures at c.check.ensures) c.in_ok-check.was)))

pub returns-in_err-head : goal.returns-in_err-head
unfolding wanted_of
returns-in_err-head c =
    let p = err_from_is_err_and c.from_residual.result c.from_residual.ensures.1 in
    let a = c.args in
    rw (p.1, p.2) (pddl_refused a.table.now a.state.now a.out.now (head_refused written c.outline.ensures c.in_err-head.was))

pub returns-in_err-check : goal.returns-in_err-check
unfolding wanted_of
returns-in_err-check c =
    let p = err_from_is_err_and c.from_residual-in_err-check.result c.from_residual-in_err-check.ensures.1 in
    let h = accepted c.outline.ensures c.in_ok-head.was c.type_inv.table in
    let a = c.args in
    rw (p.1, p.2)
    (pddl_answered a.table.now a.state.now
    (answered_refused a.out.now (text_refused h a.state.now (check_refused (rw c.new-blocks.ensures at c.check.ensures) c.in_err-check.was))))
