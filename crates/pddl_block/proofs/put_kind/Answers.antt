-- `put_kind` meets its contract, one word for each operator. Assumes nothing.
use Prim.Native.Nat.{ℕ}
use native.Mathlib.Omega.{arith}
use mathlib.Core.Path.{◌≡◌, sym, ap}
use mathlib.Core.List.{◌++◌}
use Rattle.model.specs.Ascii.{ascii}
use Rattle.model.specs.Seen.{kind_of}
use Rattle.model.specs.Pddl.{kind_text}
use Rattle.output.specs.Writing.{written_same}
use Rattle.pddl_block.proofs.put_kind.Goals as goal

pub put_bytes-requires : goal.put_bytes-requires
put_bytes-requires c = omega (arith, c.requires.1)

pub put_bytes-requires-in-1 : goal.put_bytes-requires-in-1
put_bytes-requires-in-1 c = omega (arith, c.requires.1)

pub put_bytes-requires-in_default : goal.put_bytes-requires-in_default
put_bytes-requires-in_default c = omega (arith, c.requires.1)

pub returns-in-0 : goal.returns-in-0
unfolding kind_of kind_text ascii
returns-in-0 c =
    let word : (o : ℕ) → c.args.kind ≡ o → ascii "(" ++ kind_text (kind_of o) ≡ ascii "(" ++ kind_text (kind_of c.args.kind) = λ o e. ap (λ (m : ℕ). ascii "(" ++ kind_text (kind_of m)) (sym e) in
    written_same c.put_bytes.ensures (word 0 c.in-0.is)

pub returns-in-1 : goal.returns-in-1
unfolding kind_of kind_text ascii
returns-in-1 c =
    let word : (o : ℕ) → c.args.kind ≡ o → ascii "(" ++ kind_text (kind_of o) ≡ ascii "(" ++ kind_text (kind_of c.args.kind) = λ o e. ap (λ (m : ℕ). ascii "(" ++ kind_text (kind_of m)) (sym e) in
    written_same c.put_bytes-in-1.ensures (word 1 c.in-1.is)

pub returns-in_default : goal.returns-in_default
unfolding kind_of kind_text ascii
returns-in_default c =
    let word : (o : ℕ) → c.args.kind ≡ o → ascii "(" ++ kind_text (kind_of o) ≡ ascii "(" ++ kind_text (kind_of c.args.kind) = λ o e. ap (λ (m : ℕ). ascii "(" ++ kind_text (kind_of m)) (sym e) in
    written_same c.put_bytes-in_default.ensures (word 2 (omega (arith, c.requires.0)))
