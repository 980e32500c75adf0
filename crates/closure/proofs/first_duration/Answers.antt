-- `first_duration` meets its contract. The invariant: no entry before `i` is at fault. Assumes nothing.
use Rattle.std.proofs.Common.{arith, length, sym, ◌∙◌}
use Rattle.model.proofs.Theorems.Laws.Searching.{searched_next, searched_found, searched_all}
use Rattle.placement.specs.Day.{first_duration}
use Rattle.closure.specs.Checking.{fault_of, count_pieces}
use Rattle.closure.proofs.first_duration.Goals as goal

pub returns-then-wrong_duration : goal.returns-then-wrong_duration
unfolding fault_of first_duration
returns-then-wrong_duration c =
    let n = count_pieces 4 (length c.args.durations.now) (omega arith) in
    sym (searched_found c.loop-i.invariant (omega (arith, n, c.div_ceil-i-end.ensures)) (sym c.wrong_duration.ensures ∙ c.if-wrong_duration.true))

pub loop-i-preserved : goal.loop-i-preserved
loop-i-preserved c =
    let n = count_pieces 4 (length c.args.durations.now) (omega arith) in
    searched_next c.loop-i.invariant (omega (arith, n, c.div_ceil-i-end.ensures)) (sym c.wrong_duration.ensures ∙ c.if-wrong_duration.false)

pub returns : goal.returns
unfolding fault_of first_duration
returns c =
    let n = count_pieces 4 (length c.args.durations.now) (omega arith) in
    sym (searched_all c.loop-i.invariant (omega (arith, n, c.div_ceil-i-end.ensures)))
