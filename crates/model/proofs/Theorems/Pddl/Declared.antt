-- The text is well formed as PDDL 2.1 asks beyond its grammar: every name is declared, once; each fluent has one initial value; and an
-- action names an atom or a fluent once in its effects, so that the order of effects and what is undefined never matter. Assumes nothing.
use Rattle.std.specs.Prelude.{ℕ, zero, suc, ◌<◌, ◌≡◌, refl, Bool, not, T, ℤ, pos, length}
use Rattle.std.proofs.Common.{arith, sym, ap, inl, inr}
use Rattle.std.proofs.Math.Path.{subst}
use mathlib.Core.List.{List, [], ◌∷◌, map}
use Rattle.model.specs.Limits.{Limits}
use Rattle.model.specs.Lists.{In, tabulate}
use Rattle.model.specs.Task.{Form, Term, need, add, delete, condition, effect, Block, Task, clashes}
use Rattle.model.specs.Move.{State}
use Rattle.model.specs.Pddl.{gain, lose, Action, Fact, given, equals, sum_of, compare_of, alter_of, formulas_of, changes_of, action_of, actions_from, domain_of, problem_of}
use Rattle.model.specs.Theorems.Reading.WellFormed.{All, TermOk, ItemOk, Once, BlockOk, TaskOk}
use Rattle.model.proofs.Theorems.Laws.Listed.{in_all, in_tabulate, tabulate_in}
use Rattle.model.proofs.Theorems.Pddl.Facts.{given_in, in_equals, equals_in}
use Rattle.model.proofs.Theorems.Pddl.Changes.{any_changes}
use Rattle.model.specs.Theorems.Pddl.Declared.{ActionDeclared, ChangeDeclared, Declared, Distinct, ExpressionDeclared, FactDeclared, FormulaDeclared, Single, meets}

-- ---- the text of a task
-- the numbers from i on
distinct_numbers : (i n : ℕ) → Distinct (tabulate (λ j. j) i n)
unfolding tabulate
distinct_numbers i zero = tt
distinct_numbers i (suc n) = (λ t. later (suc i) n i (omega arith) t, distinct_numbers (suc i) n)
  where
    later : (j n i : ℕ) → i < j → In i (tabulate (λ j. j) j n) → ⊥
    later j zero i h t = t
    later j (suc n) i h (inl e) = omega (arith, e)
    later j (suc n) i h (inr t) = later (suc j) n i (omega arith) t

names_are : (n : ℕ) (ms : List Block) → map (λ (a : Action). a.name) (actions_from n ms) ≡ tabulate (λ j. j) n (length ms)
unfolding actions_from action_of tabulate
names_are n [] = refl
names_are n (m ∷ ms) = ap (λ (l : List ℕ). n ∷ l) (names_are (suc n) ms)

-- the effects of a block that names each thing once
single : (b : Block) → Once b → Single (changes_of b)
unfolding changes_of meets clashes alter_of
single [] o = tt
single (need p ∷ b) o = single b o.1
single (add p ∷ b) o = (
  subst (λ (x : Bool). T (not x))
      (sym (any_changes (meets (gain p)) (clashes (add p)) (λ q. refl) (λ c. refl) (λ q. refl) (λ q. refl) (λ e. refl) b)) o.0,
  single b o.1,
)
single (delete p ∷ b) o = (
  subst (λ (x : Bool). T (not x))
      (sym (any_changes (meets (lose p)) (clashes (delete p)) (λ q. refl) (λ c. refl) (λ q. refl) (λ q. refl) (λ e. refl) b)) o.0,
  single b o.1,
)
single (condition c ∷ b) o = single b o.1
single (effect e ∷ b) o = (
  subst (λ (x : Bool). T (not x))
      (sym (any_changes (meets (alter_of e)) (clashes (effect e)) (λ q. refl) (λ c. refl) (λ q. refl) (λ q. refl) (λ f. refl) b)) o.0,
  single b o.1,
)

module _ {L : Limits} {f : Form} {k : Task} (ok : TaskOk L f k) where
  prop_declared : (p : ℕ) → p < k.props → In p (domain_of k).predicates
  unfolding domain_of
  prop_declared p h = in_tabulate (λ j. j) 0 k.props p (omega arith) (omega arith)

  var_declared : (v : ℕ) → v < k.vars → In v (domain_of k).functions
  unfolding domain_of
  var_declared v h = in_tabulate (λ j. j) 0 k.vars v (omega arith) (omega arith)

  sum_declared : (ts : List Term) (c : ℤ) → All (TermOk L f k.vars) ts → ExpressionDeclared (domain_of k) (sum_of ts c)
  unfolding sum_of
  sum_declared [] c a = tt
  sum_declared (t ∷ ts) c a = ((tt, var_declared t.var a.0.var), sum_declared ts c a.1)

  formulas_declared : (b : Block) → All (ItemOk L f k.props k.vars) b → All (FormulaDeclared (domain_of k)) (formulas_of b)
  unfolding formulas_of compare_of
  formulas_declared [] a = tt
  formulas_declared (need p ∷ b) a = (prop_declared p a.0, formulas_declared b a.1)
  formulas_declared (add p ∷ b) a = formulas_declared b a.1
  formulas_declared (delete p ∷ b) a = formulas_declared b a.1
  formulas_declared (condition c ∷ b) a = ((sum_declared c.terms (pos 0) a.0.sum.terms, tt), formulas_declared b a.1)
  formulas_declared (effect e ∷ b) a = formulas_declared b a.1

  changes_declared : (b : Block) → All (ItemOk L f k.props k.vars) b → All (ChangeDeclared (domain_of k)) (changes_of b)
  unfolding changes_of alter_of
  changes_declared [] a = tt
  changes_declared (need p ∷ b) a = changes_declared b a.1
  changes_declared (add p ∷ b) a = (prop_declared p a.0, changes_declared b a.1)
  changes_declared (delete p ∷ b) a = (prop_declared p a.0, changes_declared b a.1)
  changes_declared (condition c ∷ b) a = changes_declared b a.1
  changes_declared (effect e ∷ b) a =
      ((var_declared e.var a.0.var, sum_declared e.terms e.base a.0.sum.terms), changes_declared b a.1)

  actions_declared :
      (n : ℕ) (ms : List Block) → All (BlockOk L f k.props k.vars) ms → All (ActionDeclared (domain_of k)) (actions_from n ms)
  unfolding actions_from action_of
  actions_declared n [] a = tt
  actions_declared n (m ∷ ms) a = (
    record {
      conditions = formulas_declared m a.0.items;
      changes = changes_declared m a.0.items;
      single = single m a.0.once;
    },
    actions_declared (suc n) ms a.1,
  )

  fact_declared : (s : State) (x : Fact) → In x (problem_of k s).init → FactDeclared (domain_of k) x
  unfolding problem_of
  fact_declared s (given p) i = prop_declared p (given_in s k.props k.vars p i).0
  fact_declared s (equals v z) i = var_declared v (equals_in s k.props k.vars v z i).0

  fluent_valued :
      (s : State) (v : ℕ)
      → In v (domain_of k).functions
      → (z : ℤ) × In (equals v z) (problem_of k s).init × ((y : ℤ) → In (equals v y) (problem_of k s).init → y ≡ z)
  unfolding problem_of domain_of
  fluent_valued s v i = (
    s.val v,
    in_equals s k.props k.vars v (tabulate_in (λ j. j) v 0 k.vars i (λ j h e. omega (arith, e))),
    λ y t. (equals_in s k.props k.vars v y t).1,
  )

  -- the text of a task that meets every check, in any state
  pub text_declared : (s : State) → Declared (domain_of k) (problem_of k s)
  unfolding problem_of domain_of
  text_declared s =
      record {
        predicates = distinct_numbers 0 k.props;
        functions = distinct_numbers 0 k.vars;
        names = subst Distinct (sym (names_are 0 k.moves)) (distinct_numbers 0 (length k.moves));
        actions = actions_declared 0 k.moves ok.blocks;
        init = in_all (FactDeclared (domain_of k)) (problem_of k s).init (fact_declared s);
        goal = formulas_declared k.goal ok.goal.items;
        valued = fluent_valued s;
      }
