-- `put_comparison` meets its contract, one word for each operator. Assumes nothing.
use Prim.Native.Nat.{ℕ}
use native.Mathlib.Omega.{arith}
use mathlib.Core.Path.{◌≡◌, sym, ap}
use mathlib.Core.List.{◌++◌}
use Rattle.model.specs.Ascii.{ascii}
use Rattle.model.specs.Seen.{comparison_of}
use Rattle.model.specs.Pddl.{comparison_text}
use Rattle.model.proofs.Theorems.Reading.Ranges.{one_of_five}
use Rattle.output.specs.Writing.{written_same}
use Rattle.pddl_block.proofs.put_comparison.Goals as goal

pub put_bytes-requires : goal.put_bytes-requires
put_bytes-requires c = omega (arith, c.requires.1)

pub put_bytes-requires-in-1 : goal.put_bytes-requires-in-1
put_bytes-requires-in-1 c = omega (arith, c.requires.1)

pub put_bytes-requires-in-2 : goal.put_bytes-requires-in-2
put_bytes-requires-in-2 c = omega (arith, c.requires.1)

pub put_bytes-requires-in-3 : goal.put_bytes-requires-in-3
put_bytes-requires-in-3 c = omega (arith, c.requires.1)

pub put_bytes-requires-in_default : goal.put_bytes-requires-in_default
put_bytes-requires-in_default c = omega (arith, c.requires.1)

pub returns-in-0 : goal.returns-in-0
unfolding comparison_of comparison_text ascii
returns-in-0 c =
    let word : (o : ℕ) → c.args.comparison ≡ o → ascii "(" ++ comparison_text (comparison_of o) ≡ ascii "(" ++ comparison_text (comparison_of c.args.comparison) = λ o e. ap (λ (m : ℕ). ascii "(" ++ comparison_text (comparison_of m)) (sym e) in
    written_same c.put_bytes.ensures (word 0 c.in-0.is)

pub returns-in-1 : goal.returns-in-1
unfolding comparison_of comparison_text ascii
returns-in-1 c =
    let word : (o : ℕ) → c.args.comparison ≡ o → ascii "(" ++ comparison_text (comparison_of o) ≡ ascii "(" ++ comparison_text (comparison_of c.args.comparison) = λ o e. ap (λ (m : ℕ). ascii "(" ++ comparison_text (comparison_of m)) (sym e) in
    written_same c.put_bytes-in-1.ensures (word 1 c.in-1.is)

pub returns-in-2 : goal.returns-in-2
unfolding comparison_of comparison_text ascii
returns-in-2 c =
    let word : (o : ℕ) → c.args.comparison ≡ o → ascii "(" ++ comparison_text (comparison_of o) ≡ ascii "(" ++ comparison_text (comparison_of c.args.comparison) = λ o e. ap (λ (m : ℕ). ascii "(" ++ comparison_text (comparison_of m)) (sym e) in
    written_same c.put_bytes-in-2.ensures (word 2 c.in-2.is)

pub returns-in-3 : goal.returns-in-3
unfolding comparison_of comparison_text ascii
returns-in-3 c =
    let word : (o : ℕ) → c.args.comparison ≡ o → ascii "(" ++ comparison_text (comparison_of o) ≡ ascii "(" ++ comparison_text (comparison_of c.args.comparison) = λ o e. ap (λ (m : ℕ). ascii "(" ++ comparison_text (comparison_of m)) (sym e) in
    written_same c.put_bytes-in-3.ensures (word 3 c.in-3.is)

pub returns-in_default : goal.returns-in_default
unfolding comparison_of comparison_text ascii
returns-in_default c =
    let word : (o : ℕ) → c.args.comparison ≡ o → ascii "(" ++ comparison_text (comparison_of o) ≡ ascii "(" ++ comparison_text (comparison_of c.args.comparison) = λ o e. ap (λ (m : ℕ). ascii "(" ++ comparison_text (comparison_of m)) (sym e) in
    written_same c.put_bytes-in_default.ensures (word 4 (omega (arith, one_of_five _ c.requires.0)))
