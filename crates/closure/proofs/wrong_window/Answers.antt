-- `wrong_window` meets its contract: one way in which a window can be at fault after the other. Assumes nothing.
use Rattle.std.proofs.Common.{arith, ◌≡◌, true}
use lib.Dec.{ltb, ltb→lt, nltb→le, not_T}
use Rattle.placement.specs.Day.{paper_day, window_at, wrong_window}
use Rattle.closure.specs.Checking.{window_by, window_wrong, overlap}
use Rattle.closure.proofs.wrong_window.Goals as goal

pub returns-then-i-ge64 : goal.returns-then-i-ge64
unfolding paper_day
returns-then-i-ge64 c = window_wrong (λ ok. let n = ok.number in let w = ok.whole in grind arith)

pub returns-then-shutting-gt1000000 : goal.returns-then-shutting-gt1000000
unfolding window_at paper_day
returns-then-shutting-gt1000000 c =
    let wrong : true ≡ wrong_window paper_day c.args.windows.now c.args.i =
    window_wrong (λ ok. let later = ok.later in let most = ok.in_range in grind arith) in
    cc

pub returns-else-shutting-gt1000000 : goal.returns-else-shutting-gt1000000
unfolding window_at paper_day
returns-else-shutting-gt1000000 c =
    let o = c.minute_at-opening.result in
    window_by (ltb o c.args.before)
    (λ t ok. overlap c.requires.1 ok (omega (arith, ltb→lt o c.args.before t)))
    (λ f.
    let after = nltb→le o c.args.before (not_T (ltb o c.args.before) f) in
    record {
      number = omega arith;
      whole = omega arith;
      later = omega arith;
      in_range = omega arith;
      behind = λ j e. omega (arith, after, c.requires.1.behind j e);
    })
