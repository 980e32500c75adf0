-- `put_comparison` meets its contract: each arm is the rule of its operator, and no other number comes here. Assumes nothing.
use Prim.Native.Nat.{ℕ}
use Rattle.std.specs.Prelude.{List, ℤ}
use Rattle.model.specs.Task.{Term}
use native.Mathlib.Omega.{arith}
use mathlib.Core.Path.{◌≡◌, sym, ap}
use Rattle.integer.specs.Linear.{back}
use Rattle.model.specs.Command.{items_bytes}
use Rattle.model.specs.Seen.{comparison_of}
use Rattle.model.specs.NormalForm.{normal_condition}
use Rattle.model.proofs.Theorems.Reading.Ranges.{one_of_five}
use Rattle.output.specs.Writing.{written_same}
use Rattle.block.specs.Terms.{terms_at}
use Rattle.normal_condition.proofs.put_comparison.Goals as goal

-- the rule of a number
rule : (k o : ℕ) (ts : List Term) (c : ℤ) → k ≡ o → items_bytes (normal_condition (comparison_of o) ts c) ≡ items_bytes (normal_condition (comparison_of k) ts c)
rule k o ts c e = ap (λ (m : ℕ). items_bytes (normal_condition (comparison_of m) ts c)) (sym e)

pub returns-in-0 : goal.returns-in-0
unfolding comparison_of
returns-in-0 c =
    let a = c.args in
    written_same (rw (back a.c c.ranges.c.sfits) at c.put_at_least.ensures) (rule a.comparison 0 (terms_at a.terms.now.part.now a.terms.now.from a.terms.now.count) a.c c.in-0.is)

pub returns-in-1 : goal.returns-in-1
unfolding comparison_of
returns-in-1 c =
    let a = c.args in
    written_same (rw (back a.c c.ranges.c.sfits) at c.put_above.ensures) (rule a.comparison 1 (terms_at a.terms.now.part.now a.terms.now.from a.terms.now.count) a.c c.in-1.is)

pub returns-in-2 : goal.returns-in-2
unfolding comparison_of
returns-in-2 c =
    let a = c.args in
    written_same (rw (back a.c c.ranges.c.sfits) at c.put_at_most.ensures) (rule a.comparison 2 (terms_at a.terms.now.part.now a.terms.now.from a.terms.now.count) a.c c.in-2.is)

pub returns-in-3 : goal.returns-in-3
unfolding comparison_of
returns-in-3 c =
    let a = c.args in
    written_same (rw (back a.c c.ranges.c.sfits) at c.put_below.ensures) (rule a.comparison 3 (terms_at a.terms.now.part.now a.terms.now.from a.terms.now.count) a.c c.in-3.is)

pub returns-in-4 : goal.returns-in-4
unfolding comparison_of
returns-in-4 c =
    let a = c.args in
    written_same (rw (back a.c c.ranges.c.sfits) at c.put_equal.ensures) (rule a.comparison 4 (terms_at a.terms.now.part.now a.terms.now.from a.terms.now.count) a.c c.in-4.is)

-- none of the five
pub returns-in_default : goal.returns-in_default
returns-in_default c = absurd (omega (arith, one_of_five _ c.requires.3))
