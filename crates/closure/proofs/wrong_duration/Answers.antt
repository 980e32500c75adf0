-- `wrong_duration` meets its contract. Assumes nothing.
use Rattle.std.proofs.Common.{arith, ◌∙◌, eq-eqb}
use lib.Dec.{ltb, ltb→lt, nltb→le, not_T}
use Rattle.placement.specs.Day.{paper_day, duration_at}
use Rattle.closure.specs.Checking.{duration_by, duration_wrong}
use Rattle.closure.proofs.wrong_duration.Goals as goal

pub returns-then-durations-i-lt4 : goal.returns-then-durations-i-lt4
returns-then-durations-i-lt4 c = duration_wrong (λ ok. omega (arith, ok.whole))

pub returns-then-minutes-eq0 : goal.returns-then-minutes-eq0
unfolding duration_at
returns-then-minutes-eq0 c = eq-eqb _ 0 c.if-minutes-eq0.true ∙ duration_wrong (λ ok. omega (arith, ok.positive))

pub returns-else-minutes-eq0 : goal.returns-else-minutes-eq0
unfolding duration_at paper_day
returns-else-minutes-eq0 c =
    let m = c.minute_at-minutes.result in
    duration_by (ltb 1440 m) (λ t ok. omega (arith, ltb→lt 1440 m t, ok.in_range))
    (λ f. let most = nltb→le 1440 m (not_T (ltb 1440 m) f) in record { whole = omega arith; positive = omega arith; in_range = omega arith })
