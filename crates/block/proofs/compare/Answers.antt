-- `compare` meets its contract: each arm is the comparison of its number. Assumes nothing.
use Prim.Native.Nat.{◌≤◌}
use native.Mathlib.Omega.{arith}
use mathlib.Core.Path.{◌≡◌, ◌∙◌, ap₂}
use lib.Signed.{le_z, lt_z}
use mir.Syntax.{w64}
use mir.Val.{to_z, of_z}
use Rattle.integer.specs.Linear.{back}
use Rattle.integer.proofs.Operators.{equal_test}
use Rattle.model.specs.Task.{Comparison, written}
use Rattle.model.specs.Command.{comparison_code}
use Rattle.model.proofs.Theorems.Reading.Ranges.{one_of_five}
use Rattle.model.proofs.Theorems.Printing.Operands.{comparison_range}
use Rattle.block.specs.Sums.{compares_by, compares_code}
use Rattle.block.proofs.compare.Goals as goal

small : (o : Comparison) → comparison_code o ≤ 4
small o = one_of_five (comparison_code o) (comparison_range written o tt)

pub returns-in-0 : goal.returns-in-0
unfolding compares_by
returns-in-0 c o e =
    let bound : to_z w64 (of_z w64 c.args.c) ≡ c.args.c = back c.args.c c.ranges.c.sfits in
    let total : to_z w64 (of_z w64 c.args.total) ≡ c.args.total = back c.args.total c.ranges.total.sfits in
    ap₂ le_z (bound) (total) ∙ compares_code o 0 c.args.total c.args.c (e ∙ c.in-0.is)

pub returns-in-1 : goal.returns-in-1
unfolding compares_by
returns-in-1 c o e =
    let bound : to_z w64 (of_z w64 c.args.c) ≡ c.args.c = back c.args.c c.ranges.c.sfits in
    let total : to_z w64 (of_z w64 c.args.total) ≡ c.args.total = back c.args.total c.ranges.total.sfits in
    ap₂ lt_z (bound) (total) ∙ compares_code o 1 c.args.total c.args.c (e ∙ c.in-1.is)

pub returns-in-2 : goal.returns-in-2
unfolding compares_by
returns-in-2 c o e =
    let total : to_z w64 (of_z w64 c.args.total) ≡ c.args.total = back c.args.total c.ranges.total.sfits in
    let bound : to_z w64 (of_z w64 c.args.c) ≡ c.args.c = back c.args.c c.ranges.c.sfits in
    ap₂ le_z (total) (bound) ∙ compares_code o 2 c.args.total c.args.c (e ∙ c.in-2.is)

pub returns-in-3 : goal.returns-in-3
unfolding compares_by
returns-in-3 c o e =
    let total : to_z w64 (of_z w64 c.args.total) ≡ c.args.total = back c.args.total c.ranges.total.sfits in
    let bound : to_z w64 (of_z w64 c.args.c) ≡ c.args.c = back c.args.c c.ranges.c.sfits in
    ap₂ lt_z (total) (bound) ∙ compares_code o 3 c.args.total c.args.c (e ∙ c.in-3.is)

pub returns-in_default : goal.returns-in_default
unfolding compares_by
returns-in_default c o e =
    let four : comparison_code o ≡ 4 = omega (arith, small o) in
    equal_test c.args.total c.args.c c.ranges.total.sfits c.ranges.c.sfits ∙ compares_code o 4 c.args.total c.args.c four
