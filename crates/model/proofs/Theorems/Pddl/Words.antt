-- Words, numbers, names and lists of PDDL text show where they end: two that go on to the same bytes are the same, and what
-- follows them is the same. A number does where no digit follows. Assumes nothing.
use Rattle.std.specs.Prelude.{ℕ, suc, ◌≤◌, ◌<◌, ◌≡◌, refl, not, T, eqb, ℤ, pos, negsuc, length, get_or}
use Prim.Native.String.{String}
use Rattle.std.proofs.Common.{arith, sym, ap, ap₂, ◌∙◌, subst, T_not, lit≤}
use mathlib.Core.List.{List, [], ◌∷◌, ◌++◌, append_assoc, head-eq_of_cons-eq, tail-eq_of_cons-eq}
use Rattle.std.proofs.Math.Dec.{eqb_refl}
use Rattle.model.specs.Listing.{decimal}
use Rattle.model.specs.Ascii.{ascii}
use Rattle.model.specs.Pddl.{number_text, atom_text, head_text, lines}
use Rattle.model.specs.Theorems.Reading.WellFormed.{All}
use Rattle.model.specs.Theorems.Printing.Decimals.{Digit, value_of}
use Rattle.model.proofs.Theorems.Printing.Decimals.{decimal_value, decimal_digits, decimal_some}
use Rattle.model.specs.Theorems.Pddl.Words.{Delimited, Ends, SelfDelimiting}

-- ---- words
-- the same word before both
pub skip : (w : List ℕ) {r q : List ℕ} → w ++ r ≡ w ++ q → r ≡ q
skip [] e = e
skip (b ∷ w) e = skip w (tail-eq_of_cons-eq e)

-- equal texts have the same byte at each place
pub byte : (i : ℕ) {l m : List ℕ} → l ≡ m → get_or l i 0 ≡ get_or m i 0
byte i e = ap (λ (l : List ℕ). get_or l i 0) e

-- two bytes that differ
pub apart : (m n : ℕ) → T (not (eqb m n)) → m ≡ n → ⊥
apart m n t e = T_not (eqb m n) t (subst (λ (x : ℕ). T (eqb m x)) e (eqb_refl m))

-- a word that can be read back from the bytes that begin with it
pub symbol_splits :
    {A : Type 0} (print : A → List ℕ) (read : List ℕ → A)
    → ((x : A) (r : List ℕ) → read (print x ++ r) ≡ x)
    → SelfDelimiting print
symbol_splits print read back x y r q e =
    let same : x ≡ y = sym (back x r) ∙ ap read e ∙ back y q in
    (same, skip (print y) (ap (λ z. print z ++ r) (sym same) ∙ e))

-- ---- numbers
-- digits end before a byte that is none
digits_split :
    (ds es r q : List ℕ)
    → All Digit ds
    → All Digit es
    → Ends r
    → Ends q
    → ds ++ r ≡ es ++ q
    → (ds ≡ es) × (r ≡ q)
digits_split [] [] r q a b h k e = (refl, e)
digits_split [] (c ∷ es) r q a b h k e = absurd (omega (arith, byte 0 e, b.0))
digits_split (d ∷ ds) [] r q a b h k e = absurd (omega (arith, byte 0 e, a.0))
digits_split (d ∷ ds) (c ∷ es) r q a b h k e =
    let s = digits_split ds es r q a.1 b.1 h k (tail-eq_of_cons-eq e) in
    (ap₂ (λ (x : ℕ) (l : List ℕ). x ∷ l) (head-eq_of_cons-eq e) s.0, s.1)

pub decimal_splits : Delimited decimal
decimal_splits m n r q h k e =
    let s = digits_split (decimal m) (decimal n) r q (decimal_digits m) (decimal_digits n) h k e in
    (sym (decimal_value m) ∙ ap value_of s.0 ∙ decimal_value n, s.1)

decimal_first : (n : ℕ) (r : List ℕ) → 48 ≤ get_or (decimal n ++ r) 0 0
decimal_first n r = go (decimal n) (decimal_digits n) (decimal_some n)
  where
    go : (ds : List ℕ) → All Digit ds → 0 < length ds → 48 ≤ get_or (ds ++ r) 0 0
    go [] a h = absurd (omega arith)
    go (d ∷ ds) a h = a.0.0

-- a number begins with a digit or its sign
pub number_first : (z : ℤ) (r : List ℕ) → 45 ≤ get_or (number_text z ++ r) 0 0
unfolding number_text ascii
number_first (pos n) r = omega (arith, decimal_first n r)
number_first (negsuc n) r = lit≤ tt

pub number_splits : Delimited number_text
unfolding number_text ascii
number_splits (pos m) (pos n) r q h k e = let s = decimal_splits m n r q h k e in (ap pos s.0, s.1)
number_splits (pos m) (negsuc n) r q h k e = absurd (omega (arith, byte 0 e, decimal_first m r))
number_splits (negsuc m) (pos n) r q h k e = absurd (omega (arith, byte 0 e, decimal_first n q))
number_splits (negsuc m) (negsuc n) r q h k e =
    let s = decimal_splits (suc m) (suc n) r q h k (tail-eq_of_cons-eq e) in
    let same : m ≡ n = omega (arith, s.0) in
    (ap negsuc same, s.1)

-- ---- names
pub close_ends : (r : List ℕ) → Ends (ascii ")" ++ r)
unfolding ascii
close_ends r = lit≤ tt

name_splits : (w : String) → SelfDelimiting (λ (n : ℕ). ascii w ++ decimal n ++ ascii ")")
name_splits w m n r q e =
    let s = decimal_splits m n _ _ (close_ends r) (close_ends q) (skip (ascii w) (simp append_assoc at e)) in
    (s.0, skip (ascii ")") s.1)

pub atom_splits : SelfDelimiting atom_text
unfolding atom_text
atom_splits = name_splits "(p"

pub head_splits : SelfDelimiting head_text
unfolding head_text
head_splits = name_splits "(v"

-- ---- lists
-- an element begins with a line's end, and the list ends with a bracket
pub lines_split : {A : Type 0} (indent : String) (print : A → List ℕ) → SelfDelimiting print → SelfDelimiting (lines indent print)
unfolding lines
lines_split indent print splits [] [] r q e = (refl, skip (ascii ")") e)
lines_split indent print splits [] (y ∷ ys) r q e = absurd (unfold ascii in (apart 41 10 tt (byte 0 e)))
lines_split indent print splits (x ∷ xs) [] r q e = absurd (unfold ascii in (apart 10 41 tt (byte 0 e)))
lines_split {A} indent print splits (x ∷ xs) (y ∷ ys) r q e =
    let s = splits x y _ _ (skip (ascii indent) (skip (ascii "\n") (simp append_assoc at e))) in
    let t = lines_split indent print splits xs ys r q s.1 in
    (ap₂ (λ (z : A) (zs : List A). z ∷ zs) s.0 t.0, t.1)
