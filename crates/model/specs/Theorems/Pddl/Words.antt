-- Words, numbers, names and lists of PDDL text show where they end: two that go on to the same bytes are the same, and what
-- follows them is the same. A number does where no digit follows. Assumes nothing.
use Rattle.std.specs.Prelude.{ℕ, ◌<◌, ◌≡◌, get_or}
use mathlib.Core.List.{List, ◌++◌}

-- x and y, printed before r and q, split alike
abbrev pub Splits : {A : Type 0} → (A → List ℕ) → A → A → List ℕ → List ℕ → Type 0
Splits print x y r q = print x ++ r ≡ print y ++ q → (x ≡ y) × (r ≡ q)

-- what is printed shows where it ends
abbrev pub SelfDelimiting : {A : Type 0} → (A → List ℕ) → Type 0
SelfDelimiting {A} print = (x y : A) (r q : List ℕ) → Splits print x y r q

-- bytes that begin with no digit
abbrev pub Ends : List ℕ → Type 0
Ends r = get_or r 0 0 < 48

-- what is printed shows where it ends, if no digit follows
abbrev pub Delimited : {A : Type 0} → (A → List ℕ) → Type 0
Delimited {A} print = (x y : A) (r q : List ℕ) → Ends r → Ends q → Splits print x y r q
