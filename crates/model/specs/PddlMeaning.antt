-- What PDDL 2.1 (Fox and Long 2003) means by the forms of `Pddl`, said over its grammar alone: no table and no task is named.
-- `Theorems.Pddl` proves that each form means what its command means. PDDL 2.1 also knows fluents without a value and several increases
-- of one fluent by one action; no text that is written has either (`Theorems.Pddl.Declared`). Assumes nothing.
use Rattle.std.specs.Prelude.{ℕ, ◌≡◌, List, [], ◌∷◌, ◌++◌, T, ℤ, ◌+ℤ◌, ◌-ℤ◌, ◌*ℤ◌, ◌≤ℤ◌, ◌<ℤ◌}
use Rattle.model.specs.Lists.{In}
use Rattle.model.specs.Task.{Comparison, at_least, above, at_most, below, equal, Kind, assign, increase, decrease}
use Rattle.model.specs.Move.{State}
use Rattle.model.specs.Pddl.{Expression, number, fluent, plus, times, Formula, atom, compare, Change, gain, lose, alter, Action, Domain, Fact, given, equals, Problem, domain_text, problem_text}

-- ---- in a state: which atoms are true, and each fluent's value

unfoldable pub value_in : State → Expression → ℤ
value_in s (number z) = z
value_in s (fluent v) = s.val v
value_in s (plus e f) = value_in s e +ℤ value_in s f
value_in s (times e f) = value_in s e *ℤ value_in s f

abbrev pub Compares : Comparison → ℤ → ℤ → Type 0
Compares at_least x y = y ≤ℤ x
Compares above x y = y <ℤ x
Compares at_most x y = x ≤ℤ y
Compares below x y = x <ℤ y
Compares equal x y = x ≡ y

abbrev pub Satisfies : State → Formula → Type 0
Satisfies s (atom p) = T (s.has p)
Satisfies s (compare o e f) = Compares o (value_in s e) (value_in s f)

-- (and <GD>*)
abbrev pub SatisfiesAll : State → List Formula → Type 0
SatisfiesAll s fs = (f : Formula) → In f fs → Satisfies s f

-- ---- from a state to the next

-- a fluent's new value, from its old one and the expression's
unfoldable pub altered : Kind → ℤ → ℤ → ℤ
altered assign old z = z
altered increase old z = old +ℤ z
altered decrease old z = old -ℤ z

-- t follows s by the changes, all at once: the atoms of t are those of s without the deleted and with the added, so what is both is true;
-- each altered fluent has its new value, with every expression read in s, and all other fluents stay
pub record Follows (s : State) (cs : List Change) (t : State) : Type 0 where
  pub gains : (p : ℕ) → In (gain p) cs → T (t.has p)
  pub loses : (p : ℕ) → In (lose p) cs → (In (gain p) cs → ⊥) → T (t.has p) → ⊥
  pub keeps : (p : ℕ) → (In (gain p) cs → ⊥) → (In (lose p) cs → ⊥) → t.has p ≡ s.has p
  pub alters : (k : Kind) (v : ℕ) (e : Expression) → In (alter k v e) cs → t.val v ≡ altered k (s.val v) (value_in s e)
  pub stays : (v : ℕ) → ((k : Kind) (e : Expression) → In (alter k v e) cs → ⊥) → t.val v ≡ s.val v

-- ---- plans

-- a list of actions' names leads from s to the goal: each action's conditions are true when it runs, and the goal's at the end
abbrev pub Leads : Domain → List Formula → State → List ℕ → Type 0
Leads d goal s [] = SatisfiesAll s goal
Leads d goal s (n ∷ ns) =
    (a : Action)
    × In a d.actions
    × (a.name ≡ n)
    × SatisfiesAll s a.conditions
    × (t : State)
    × Follows s a.changes t
    × Leads d goal t ns

-- s is an initial state: the listed atoms are true and no others, and each listed fluent has its value
pub record Initial (fs : List Fact) (s : State) : Type 0 where
  pub listed : (p : ℕ) → In (given p) fs → T (s.has p)
  pub others : (p : ℕ) → (In (given p) fs → ⊥) → T (s.has p) → ⊥
  pub values : (v : ℕ) (z : ℤ) → In (equals v z) fs → s.val v ≡ z

-- a list of actions' names is a plan: there is an initial state, and the list leads from each to the goal
pub record IsPlan (d : Domain) (p : Problem) (ns : List ℕ) : Type 0 where
  pub start : State
  pub initial : Initial p.init start
  pub leads : (s : State) → Initial p.init s → Leads d p.goal s ns

-- of a text's bytes: they are the text of a domain and a problem, the only ones (`Theorems.Pddl.Documents.one_document`), and the list is
-- a plan of these
pub record TextPlan (x ns : List ℕ) : Type 0 where
  pub domain : Domain
  pub problem : Problem
  pub text : domain_text domain ++ problem_text problem ≡ x
  pub plan : IsPlan domain problem ns
