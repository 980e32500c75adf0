-- `put_kind` meets its contract: each arm is the effect of its number. Assumes nothing.
use Prim.Native.Nat.{ℕ}
use native.Mathlib.Omega.{arith}
use mathlib.Core.Path.{◌≡◌, sym, ap}
use Rattle.std.specs.Prelude.{List, ℤ}
use Rattle.integer.specs.Linear.{back}
use Rattle.model.specs.Task.{Term}
use Rattle.model.specs.Seen.{kind_of}
use Rattle.output.specs.Writing.{written_same}
use Rattle.block.specs.Terms.{terms_at}
use Rattle.normal_condition.proofs.Signed.{neg_back}
use Rattle.normal_block.specs.Effects.{effect_print}
use Rattle.normal_block.proofs.put_kind.Goals as goal

-- the effect of a number
print : (k o v : ℕ) (ts : List Term) (c : ℤ) → k ≡ o → effect_print (kind_of o) v ts c ≡ effect_print (kind_of k) v ts c
print k o v ts c e = ap (λ (m : ℕ). effect_print (kind_of m) v ts c) (sym e)

pub returns-in-0 : goal.returns-in-0
unfolding kind_of effect_print
returns-in-0 c =
    let a = c.args in
    let ts = terms_at a.terms.now.part.now a.terms.now.from a.terms.now.count in
    written_same (rw (back a.c c.ranges.c.sfits) at c.put_mirrored.ensures) (print a.kind 0 a.var ts a.c c.in-0.is)

pub returns-in-1 : goal.returns-in-1
unfolding kind_of effect_print
returns-in-1 c =
    let a = c.args in
    let ts = terms_at a.terms.now.part.now a.terms.now.from a.terms.now.count in
    written_same (rw (back a.c c.ranges.c.sfits) at c.put_mirrored-in-1.ensures) (print a.kind 1 a.var ts a.c c.in-1.is)

pub returns-in_default : goal.returns-in_default
unfolding kind_of effect_print
returns-in_default c =
    let a = c.args in
    let ts = terms_at a.terms.now.part.now a.terms.now.from a.terms.now.count in
    written_same (rw (neg_back a.c (omega (arith, c.requires.4))) at c.put_mirrored-in_default.ensures)
    (print a.kind 2 a.var ts a.c (omega (arith, c.requires.2)))
