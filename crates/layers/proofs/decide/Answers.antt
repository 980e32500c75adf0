-- `decide` meets its contract. Assumes nothing.
use mathlib.Core.Path.{sym, ap, ◌∙◌}
use Rattle.std.specs.Prelude.{Result, Ok}
use Rattle.std.proofs.lemmas.Result.{err_from_is_err_and}
use Rattle.model.specs.declared.Refusal.{Refusal}
use Rattle.model.specs.Calls.{decided}
use Rattle.layers.specs.declared.Built.{Built}
use Rattle.layers.specs.Building.{built_of}
use Rattle.layers.specs.Preparing.{decided_within, decided_refused, decided_built}
use Rattle.layers.proofs.decide.Goals as goal

pub returns-in_err-head : goal.returns-in_err-head
returns-in_err-head c =
    let a = c.args in
    let p = err_from_is_err_and c.from_residual.result c.from_residual.ensures.1 in
    let d = decided_refused a.table.now a.state.now a.layers.now c.in_err-head.ensures in
    rw (p.1, p.2) (d.answers, d.leaves, decided_within d)

pub returns-in_err-layer : goal.returns-in_err-layer
unfolding decided built_of
returns-in_err-layer c =
    let a = c.args in
    let p = err_from_is_err_and c.from_residual-in_err-layer.result c.from_residual-in_err-layer.ensures.1 in
    let r = c.in_ok-head.ensures in
    let d = decided_built a.table.now a.state.now a.layers.now c.build.new.layers r.is ((rw c.new-blocks.ensures at c.build.ensures).is r.task r.outlined r.counts)
    (sym (ap (λ (b : Result Built Refusal). decided (built_of b)) c.in_err-layer.was)) in
    rw (p.1, p.2) (d.answers, d.leaves, decided_within d)

pub returns-in-Reached : goal.returns-in-Reached
unfolding decided built_of
returns-in-Reached c =
    let a = c.args in
    let r = c.in_ok-head.ensures in
    let d = decided_built a.table.now a.state.now a.layers.now c.build.new.layers r.is ((rw c.new-blocks.ensures at c.build.ensures).is r.task r.outlined r.counts)
    (sym (ap (λ (b : Result Built Refusal). decided (built_of b)) (c.in_ok-layer.was ∙ ap Ok c.in-Reached.is))) in
    (d.answers, d.leaves, decided_within d)

pub returns-in-Exhausted : goal.returns-in-Exhausted
unfolding decided built_of
returns-in-Exhausted c =
    let a = c.args in
    let r = c.in_ok-head.ensures in
    let d = decided_built a.table.now a.state.now a.layers.now c.build.new.layers r.is ((rw c.new-blocks.ensures at c.build.ensures).is r.task r.outlined r.counts)
    (sym (ap (λ (b : Result Built Refusal). decided (built_of b)) (c.in_ok-layer.was ∙ ap Ok c.in-Exhausted.is))) in
    (d.answers, d.leaves, decided_within d)
