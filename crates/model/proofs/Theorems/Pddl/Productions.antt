-- Expressions, conditions and effects of PDDL text show where they end. Assumes nothing.
use Rattle.std.specs.Prelude.{ℕ, ◌<◌, ◌≡◌, refl, true, false, List, ◌++◌, eqb, ℤ, get_or}
use Rattle.std.proofs.Common.{arith, sym, ap, ap₂, append_assoc, lit≤}
use Rattle.model.specs.Task.{Comparison, at_least, above, at_most, below, equal, Kind, assign, increase, decrease}
use Rattle.model.specs.Ascii.{ascii}
use Rattle.model.specs.Pddl.{Expression, number, fluent, plus, times, atom, compare, gain, lose, alter, number_text, atom_text, head_text, expression_text, comparison_text, formula_text, kind_text, change_text}
use Rattle.model.specs.Theorems.Pddl.Words.{Splits, SelfDelimiting, Ends, Delimited}
use Rattle.model.proofs.Theorems.Pddl.Words.{skip, byte, apart, symbol_splits, number_first, number_splits, close_ends, atom_splits, head_splits}

-- ---- expressions

space_ends : (r : List ℕ) → Ends (ascii " " ++ r)
unfolding ascii
space_ends r = lit≤ tt

-- two operands and a closing bracket
operands_split :
    (a b c d : Expression) (r q : List ℕ)
    → ((r q : List ℕ) → Ends r → Ends q → Splits expression_text a c r q)
    → ((r q : List ℕ) → Ends r → Ends q → Splits expression_text b d r q)
    → expression_text a ++ (ascii " " ++ (expression_text b ++ (ascii ")" ++ r)))
    ≡ expression_text c ++ (ascii " " ++ (expression_text d ++ (ascii ")" ++ q)))
    → (a ≡ c) × (b ≡ d) × (r ≡ q)
operands_split a b c d r q first second e =
    let s = first _ _ (space_ends _) (space_ends _) e in
    let t = second _ _ (close_ends r) (close_ends q) (skip (ascii " ") s.1) in
    (s.0, t.0, skip (ascii ")") t.1)

-- no number begins with a bracket
no_bracket : (z : ℤ) (r : List ℕ) → get_or (number_text z ++ r) 0 0 ≡ 40 → ⊥
no_bracket z r e = omega (arith, number_first z r)

expression_splits : Delimited expression_text
unfolding expression_text head_text ascii
expression_splits (number y) (number z) r q h k e = let s = number_splits y z r q h k e in (ap number s.0, s.1)
expression_splits (number y) (fluent v) r q h k e = absurd (no_bracket y r (byte 0 e))
expression_splits (number y) (plus c d) r q h k e = absurd (no_bracket y r (byte 0 e))
expression_splits (number y) (times c d) r q h k e = absurd (no_bracket y r (byte 0 e))
expression_splits (fluent u) (number z) r q h k e = absurd (no_bracket z q (byte 0 (sym e)))
expression_splits (fluent u) (fluent v) r q h k e = let s = head_splits u v r q e in (ap fluent s.0, s.1)
expression_splits (fluent u) (plus c d) r q h k e = absurd (apart 118 43 tt (byte 1 e))
expression_splits (fluent u) (times c d) r q h k e = absurd (apart 118 42 tt (byte 1 e))
expression_splits (plus a b) (number z) r q h k e = absurd (no_bracket z q (byte 0 (sym e)))
expression_splits (plus a b) (fluent v) r q h k e = absurd (apart 43 118 tt (byte 1 e))
expression_splits (plus a b) (plus c d) r q h k e =
    let s =
    operands_split a b c d r q (expression_splits a c) (expression_splits b d) (skip (ascii "(+ ") (simp append_assoc at e))
    in
    (ap₂ plus s.0 s.1, s.2)
expression_splits (plus a b) (times c d) r q h k e = absurd (apart 43 42 tt (byte 1 e))
expression_splits (times a b) (number z) r q h k e = absurd (no_bracket z q (byte 0 (sym e)))
expression_splits (times a b) (fluent v) r q h k e = absurd (apart 42 118 tt (byte 1 e))
expression_splits (times a b) (plus c d) r q h k e = absurd (apart 42 43 tt (byte 1 e))
expression_splits (times a b) (times c d) r q h k e =
    let s =
    operands_split a b c d r q (expression_splits a c) (expression_splits b d) (skip (ascii "(* ") (simp append_assoc at e))
    in
    (ap₂ times s.0 s.1, s.2)

-- ---- conditions
-- ">= ", "> ", "<= ", "< " or "= ", by its first two bytes
comparison_read : List ℕ → Comparison
comparison_read l =
    elim (eqb (get_or l 0 0) 62) [
      | true ↦ elim (eqb (get_or l 1 0) 61) [ true ↦ at_least | false ↦ above ]
      | false ↦
          elim (eqb (get_or l 0 0) 60) [
            | true ↦ elim (eqb (get_or l 1 0) 61) [ true ↦ at_most | false ↦ below ]
            | false ↦ equal
          ]
    ]

comparison_back : (o : Comparison) (r : List ℕ) → comparison_read (comparison_text o ++ r) ≡ o
unfolding comparison_read comparison_text ascii
comparison_back at_least r = refl
comparison_back above r = refl
comparison_back at_most r = refl
comparison_back below r = refl
comparison_back equal r = refl

-- the byte behind the bracket tells the forms apart
atom_second : (p : ℕ) (r : List ℕ) → get_or (atom_text p ++ r) 1 0 ≡ 112
unfolding atom_text ascii
atom_second p r = refl

comparison_second : (o : Comparison) (a b : Expression) (r : List ℕ) → get_or (formula_text (compare o a b) ++ r) 1 0 < 63
unfolding formula_text comparison_text ascii
comparison_second at_least a b r = lit≤ tt
comparison_second above a b r = lit≤ tt
comparison_second at_most a b r = lit≤ tt
comparison_second below a b r = lit≤ tt
comparison_second equal a b r = lit≤ tt

pub formula_splits : SelfDelimiting formula_text
unfolding formula_text
formula_splits (atom m) (atom n) r q e = let s = atom_splits m n r q e in (ap atom s.0, s.1)
formula_splits (atom m) (compare o c d) r q e = absurd (omega (arith, byte 1 e, atom_second m r, comparison_second o c d q))
formula_splits (compare o a b) (atom n) r q e = absurd (omega (arith, byte 1 e, atom_second n q, comparison_second o a b r))
formula_splits (compare o a b) (compare p c d) r q e =
    let s = symbol_splits comparison_text comparison_read comparison_back o p _ _ (skip (ascii "(") (simp append_assoc at e)) in
    let t = operands_split a b c d r q (expression_splits a c) (expression_splits b d) s.1 in
    (λ i. compare (s.0 i) (t.0 i) (t.1 i), t.2)

-- ---- effects
-- "assign ", "increase " or "decrease ", by its first byte
kind_read : List ℕ → Kind
kind_read l =
    elim (eqb (get_or l 0 0) 97) [ true ↦ assign | false ↦ elim (eqb (get_or l 0 0) 105) [ true ↦ increase | false ↦ decrease ] ]

kind_back : (k : Kind) (r : List ℕ) → kind_read (kind_text k ++ r) ≡ k
unfolding kind_read kind_text ascii
kind_back assign r = refl
kind_back increase r = refl
kind_back decrease r = refl

lose_second : (p : ℕ) (r : List ℕ) → get_or (change_text (lose p) ++ r) 1 0 ≡ 110
unfolding change_text ascii
lose_second p r = refl

alter_second : (k : Kind) (v : ℕ) (a : Expression) (r : List ℕ) → get_or (change_text (alter k v a) ++ r) 1 0 < 106
unfolding change_text kind_text ascii
alter_second assign v a r = lit≤ tt
alter_second increase v a r = lit≤ tt
alter_second decrease v a r = lit≤ tt

pub change_splits : SelfDelimiting change_text
unfolding change_text
change_splits (gain m) (gain n) r q e = let s = atom_splits m n r q e in (ap gain s.0, s.1)
change_splits (gain m) (lose n) r q e = absurd (omega (arith, byte 1 e, atom_second m r, lose_second n q))
change_splits (gain m) (alter j v d) r q e = absurd (omega (arith, byte 1 e, atom_second m r, alter_second j v d q))
change_splits (lose m) (gain n) r q e = absurd (omega (arith, byte 1 e, lose_second m r, atom_second n q))
change_splits (lose m) (lose n) r q e =
    let s = atom_splits m n _ _ (skip (ascii "(not ") (simp append_assoc at e)) in
    (ap lose s.0, skip (ascii ")") s.1)
change_splits (lose m) (alter j v d) r q e = absurd (omega (arith, byte 1 e, lose_second m r, alter_second j v d q))
change_splits (alter i u c) (gain n) r q e = absurd (omega (arith, byte 1 e, alter_second i u c r, atom_second n q))
change_splits (alter i u c) (lose n) r q e = absurd (omega (arith, byte 1 e, alter_second i u c r, lose_second n q))
change_splits (alter i u c) (alter j v d) r q e =
    let s = symbol_splits kind_text kind_read kind_back i j _ _ (skip (ascii "(") (simp append_assoc at e)) in
    let t = head_splits u v _ _ s.1 in
    let x = expression_splits c d _ _ (close_ends r) (close_ends q) (skip (ascii " ") t.1) in
    (λ z. alter (s.0 z) (t.0 z) (x.0 z), skip (ascii ")") x.1)
