-- `larger` meets its contract: in each branch the test says which of the two is the larger.
-- Assumes nothing.
use mathlib.Core.Path.{◌≡◌, sym, ◌∙◌}
use mir.Syntax.{w64}
use mir.Val.{to_z, of_z}
use Rattle.integer.specs.Linear.{le_true, le_false, <-≤, larger_is_left, larger_is_right, back}
use Rattle.integer.proofs.larger.Goals as goal

pub returns-then-a-b : goal.returns-then-a-b
returns-then-a-b c =
    let second : to_z w64 (of_z w64 c.args.b) ≡ c.args.b = back c.args.b c.ranges.b.sfits in
    let first : to_z w64 (of_z w64 c.args.a) ≡ c.args.a = back c.args.a c.ranges.a.sfits in
    second ∙ sym (larger_is_right (le_true c.args.a c.args.b (rw (first, second) at c.if-a-b.true)))

pub returns-else-a-b : goal.returns-else-a-b
returns-else-a-b c =
    let first : to_z w64 (of_z w64 c.args.a) ≡ c.args.a = back c.args.a c.ranges.a.sfits in
    let second : to_z w64 (of_z w64 c.args.b) ≡ c.args.b = back c.args.b c.ranges.b.sfits in
    first ∙ sym (larger_is_left (<-≤ (le_false c.args.a c.args.b (rw (first, second) at c.if-a-b.false))))
