-- Actions, facts, declarations, the domain and the problem of PDDL text show where they end. Assumes nothing.
use Rattle.std.specs.Prelude.{ℕ, ◌≡◌, refl, List, [], ◌∷◌, ◌++◌}
use Prim.Native.String.{String}
use Rattle.std.proofs.Common.{sym, ap, append_assoc, lit≤}
use Rattle.model.specs.Ascii.{ascii}
use Rattle.model.specs.Pddl.{Action, Domain, given, equals, Problem, atom_text, head_text, formula_text, change_text, lines, action_text, declarations, domain_text, fact_text, problem_text}
use Rattle.model.specs.Theorems.Pddl.Words.{SelfDelimiting, Ends}
use Rattle.model.proofs.Theorems.Pddl.Words.{skip, byte, apart, decimal_splits, number_splits, close_ends, atom_splits, head_splits, lines_split}
use Rattle.model.proofs.Theorems.Pddl.Productions.{formula_splits, change_splits}

-- ---- actions and facts

-- a line's end is no digit
line_ends : (r : List ℕ) → Ends (ascii "\n    :parameters ()\n    :precondition (and" ++ r)
unfolding ascii
line_ends r = lit≤ tt

action_splits : SelfDelimiting action_text
unfolding action_text
action_splits a b r q e =
    let s =
    decimal_splits a.name b.name _ _ (line_ends _) (line_ends _) (skip (ascii "(:action a") (simp append_assoc at e))
    in
    let c =
    lines_split "      " formula_text formula_splits a.conditions b.conditions _ _
    (skip (ascii "\n    :parameters ()\n    :precondition (and") s.1)
    in
    let d =
    lines_split "      " change_text change_splits a.changes b.changes _ _ (skip (ascii "\n    :effect (and") c.1)
    in
    (λ i. record { name = s.0 i; conditions = c.0 i; changes = d.0 i }, skip (ascii ")") d.1)

fact_splits : SelfDelimiting fact_text
unfolding fact_text
fact_splits (given m) (given n) r q e = let s = atom_splits m n r q e in (ap given s.0, s.1)
fact_splits (given m) (equals v z) r q e = absurd (unfold ascii in (unfold atom_text in (apart 112 61 tt (byte 1 e))))
fact_splits (equals u y) (given n) r q e = absurd (unfold ascii in (unfold atom_text in (apart 61 112 tt (byte 1 e))))
fact_splits (equals u y) (equals v z) r q e =
    let s = head_splits u v _ _ (skip (ascii "(= ") (simp append_assoc at e)) in
    let t = number_splits y z _ _ (close_ends r) (close_ends q) (skip (ascii " ") s.1) in
    (λ i. equals (s.0 i) (t.0 i), skip (ascii ")") t.1)

-- ---- declarations
-- bytes that do not begin with a word
abbrev Lacks : String → List ℕ → Type 0
Lacks word r = (q : List ℕ) → r ≡ ascii word ++ q → ⊥

-- declarations, left out where there are none, before bytes that do not begin as they do
declarations_split :
    (word : String) (print : ℕ → List ℕ)
    → SelfDelimiting print
    → (ms ns r q : List ℕ)
    → Lacks word r
    → Lacks word q
    → declarations word print ms ++ r ≡ declarations word print ns ++ q
    → (ms ≡ ns) × (r ≡ q)
unfolding declarations
declarations_split word print splits [] [] r q h k e = (refl, e)
declarations_split word print splits [] (n ∷ ns) r q h k e = absurd (h _ (simp append_assoc at e))
declarations_split word print splits (m ∷ ms) [] r q h k e = absurd (k _ (sym (simp append_assoc at e)))
declarations_split word print splits (m ∷ ms) (n ∷ ns) r q h k e =
    lines_split "    " print splits (m ∷ ms) (n ∷ ns) r q (skip (ascii word) (simp append_assoc at e))

-- behind the declarations: the actions, or the domain's closing bracket
no_functions : (xs : List Action) (r : List ℕ) → Lacks "\n  (:functions" (lines "  " action_text xs ++ r)
unfolding lines action_text ascii
no_functions [] r q e = apart 41 10 tt (byte 0 e)
no_functions (x ∷ xs) r q e = apart 97 102 tt (byte 5 e)

no_predicates :
    (vs : List ℕ) (xs : List Action) (r : List ℕ)
    → Lacks "\n  (:predicates" (declarations "\n  (:functions" head_text vs ++ (lines "  " action_text xs ++ r))
unfolding declarations lines action_text ascii
no_predicates [] [] r q e = apart 41 10 tt (byte 0 e)
no_predicates [] (x ∷ xs) r q e = apart 97 112 tt (byte 5 e)
no_predicates (v ∷ vs) xs r q e = apart 102 112 tt (byte 5 e)

-- ---- the domain and the problem
domain_splits : SelfDelimiting domain_text
unfolding domain_text
domain_splits c d r q e =
    let s =
    declarations_split "\n  (:predicates" atom_text atom_splits c.predicates d.predicates _ _
    (no_predicates c.functions c.actions _)
    (no_predicates d.functions d.actions _)
    (skip (ascii "(define (domain campaign)\n  (:requirements :strips :fluents)") (simp append_assoc at e))
    in
    let t =
    declarations_split "\n  (:functions" head_text head_splits c.functions d.functions _ _
    (no_functions c.actions _)
    (no_functions d.actions _)
    s.1
    in
    let a = lines_split "  " action_text action_splits c.actions d.actions _ _ t.1 in
    (λ i. record { predicates = s.0 i; functions = t.0 i; actions = a.0 i }, skip (ascii "\n") a.1)

problem_splits : SelfDelimiting problem_text
unfolding problem_text
problem_splits c d r q e =
    let s =
    lines_split "    " fact_text fact_splits c.init d.init _ _
    (skip (ascii "(define (problem start)\n  (:domain campaign)\n  (:init") (simp append_assoc at e))
    in
    let t = lines_split "    " formula_text formula_splits c.goal d.goal _ _ (skip (ascii "\n  (:goal (and") s.1) in
    (λ i. record { init = s.0 i; goal = t.0 i }, skip (ascii "))\n") t.1)

-- two texts that are the same are of the same domain and problem
pub one_document :
    (c d : Domain) (p q : Problem)
    → domain_text c ++ problem_text p ≡ domain_text d ++ problem_text q
    → (c ≡ d) × (p ≡ q)
one_document c d p q e =
    let s = domain_splits c d (problem_text p) (problem_text q) e in
    (s.0, (problem_splits p q [] [] (ap (λ (l : List ℕ). l ++ []) s.1)).0)
