-- `make` meets its contract: its conditions and its run, then the range of the values, then the truths. Assumes nothing.
use native.Mathlib.Omega.{arith}
use Rattle.real_move.specs.Moving.{move_triable, moved_refused, moved_beyond, moved_made}
use Rattle.real_move.proofs.make.Goals as goal

pub run-requires : goal.run-requires
run-requires c = move_triable c.requires

pub returns-then-not-run : goal.returns-then-not-run
returns-then-not-run c = moved_refused c.run.ensures c.if-not-run.true

pub returns-then-not-keep_values : goal.returns-then-not-keep_values
returns-then-not-keep_values c = moved_beyond c.run.ensures c.if-not-run.false c.keep_values.ensures c.if-not-keep_values.true

pub returns : goal.returns
returns c =
    moved_made c.run.ensures c.if-not-run.false c.keep_values.ensures c.if-not-keep_values.false c.keep_truths.ensures
    c.keep_truths.auto.had c.keep_values.auto.values (omega arith) (omega arith)
