-- `first_window` meets its contract. The invariant: no window before `i` is at fault, and `before` is when the last of them shuts.
-- Assumes nothing.
use Rattle.std.proofs.Common.{arith, length, sym, ◌∙◌}
use Rattle.model.proofs.Theorems.Laws.Searching.{searched_next, searched_found, searched_all}
use Rattle.placement.specs.Day.{window_at, first_window}
use Rattle.closure.specs.Checking.{fault_of, count_pieces, shut_next, window_passed}
use Rattle.closure.proofs.first_window.Goals as goal

pub returns-then-wrong_window : goal.returns-then-wrong_window
unfolding fault_of first_window
returns-then-wrong_window c =
    let n = count_pieces 8 (length c.args.windows.now) (omega arith) in
    sym (searched_found c.loop-i.invariant.0 (omega (arith, n, c.div_ceil-i-end.ensures)) (sym c.wrong_window.ensures ∙ c.if-wrong_window.true))

pub minute_at-before-requires : goal.minute_at-before-requires
minute_at-before-requires c = omega (arith, (window_passed c.wrong_window.ensures c.if-wrong_window.false).whole)

pub loop-i-preserved : goal.loop-i-preserved
unfolding window_at
loop-i-preserved c =
    let n = count_pieces 8 (length c.args.windows.now) (omega arith) in (
      searched_next c.loop-i.invariant.0 (omega (arith, n, c.div_ceil-i-end.ensures)) (sym c.wrong_window.ensures ∙ c.if-wrong_window.false),
      shut_next _ c.loop-i.i c.minute_at-before.ensures.0,
    )

pub returns : goal.returns
unfolding fault_of first_window
returns c =
    let n = count_pieces 8 (length c.args.windows.now) (omega arith) in
    sym (searched_all c.loop-i.invariant.0 (omega (arith, n, c.div_ceil-i-end.ensures)))
