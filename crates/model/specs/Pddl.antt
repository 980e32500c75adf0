-- A written table and a state as PDDL 2.1 text, a domain and a problem (document 02, request 1): the grammar of the subset, a type
-- for each nonterminal and a constructor for each production; the text, a clause for each production; what stands for each command
-- of a table; and the call. `PddlMeaning` has the meaning that PDDL 2.1 gives each form. Assumes nothing.
use Rattle.std.specs.Prelude.{ℕ, zero, suc, true, false, List, [], ◌∷◌, ◌++◌, ℤ, pos, negsuc, length, Result}
use Prim.Native.String.{String}
use Rattle.std.proofs.Math.Option.{Option, none, some}
use Rattle.model.specs.declared.Refusal.{Refusal}
use Rattle.model.specs.Limits.{Limits}
use Rattle.model.specs.Lists.{tabulate}
use Rattle.model.specs.Task.{written, Term, Comparison, at_least, above, at_most, below, equal, Condition, Kind, assign, increase, decrease, Effect, need, add, delete, condition, effect, Block, Task}
use Rattle.model.specs.Move.{State}
use Rattle.model.specs.Reading.{Verdict, accepted, refused, only, reading}
use Rattle.model.specs.StateTable.{state_of, state_refusal}
use Rattle.model.specs.Calls.{Output, writes, turns, fitted, write_answer, output_after}
use Rattle.model.specs.Listing.{decimal}
use Rattle.model.specs.Ascii.{ascii}

-- ---- the grammar: "State the text's grammar for this subset". The productions are those of Fox and Long, "PDDL2.1", 2003, appendix A,
-- as far as a table can say them; "names p0, v0, a0 and so on", so a name is its number

-- <f-exp> ::= <number> | <f-head> | (<binary-op> <f-exp> <f-exp>)
pub data Expression : Type 0 where
  number : ℤ → Expression
  fluent : ℕ → Expression
  plus times : Expression → Expression → Expression

-- <GD> ::= <atomic formula> | (<binary-comp> <f-exp> <f-exp>)
pub data Formula : Type 0 where
  atom : ℕ → Formula
  compare : Comparison → Expression → Expression → Formula

-- <p-effect> ::= <atomic formula> | (not <atomic formula>) | (<assign-op> <f-head> <f-exp>)
pub data Change : Type 0 where
  gain lose : ℕ → Change
  alter : Kind → ℕ → Expression → Change

-- <action-def> ::= (:action <action symbol> :parameters () :precondition (and <GD>*) :effect (and <p-effect>*))
pub record Action : Type 0 where
  pub name : ℕ
  pub conditions : List Formula
  pub changes : List Change

-- <domain> ::= (define (domain campaign) (:requirements :strips :fluents)
--   [(:predicates <atomic formula skeleton>+)] [(:functions <atomic function skeleton>+)] <action-def>*)
pub record Domain : Type 0 where
  pub predicates : List ℕ
  pub functions : List ℕ
  pub actions : List Action

-- <init-el> ::= <atomic formula> | (= <f-head> <number>)
pub data Fact : Type 0 where
  given : ℕ → Fact
  equals : ℕ → ℤ → Fact

-- <problem> ::= (define (problem start) (:domain campaign) (:init <init-el>*) (:goal (and <GD>*)))
pub record Problem : Type 0 where
  pub init : List Fact
  pub goal : List Formula

-- ---- the text: "the layout being yours"

-- <number>: a literal, -5 too
unfoldable pub number_text : ℤ → List ℕ
number_text (pos n) = decimal n
number_text (negsuc n) = ascii "-" ++ decimal (suc n)

-- <atomic formula>, <f-head>: (p0), (v0)
unfoldable pub atom_text : ℕ → List ℕ
atom_text p = ascii "(p" ++ decimal p ++ ascii ")"

unfoldable pub head_text : ℕ → List ℕ
head_text v = ascii "(v" ++ decimal v ++ ascii ")"

unfoldable pub expression_text : Expression → List ℕ
expression_text (number z) = number_text z
expression_text (fluent v) = head_text v
expression_text (plus e f) = ascii "(+ " ++ expression_text e ++ ascii " " ++ expression_text f ++ ascii ")"
expression_text (times e f) = ascii "(* " ++ expression_text e ++ ascii " " ++ expression_text f ++ ascii ")"

-- <binary-comp> and the space behind it
unfoldable pub comparison_text : Comparison → List ℕ
comparison_text at_least = ascii ">= "
comparison_text above = ascii "> "
comparison_text at_most = ascii "<= "
comparison_text below = ascii "< "
comparison_text equal = ascii "= "

unfoldable pub formula_text : Formula → List ℕ
formula_text (atom p) = atom_text p
formula_text (compare o e f) =
    ascii "(" ++ comparison_text o ++ expression_text e ++ ascii " " ++ expression_text f ++ ascii ")"

-- <assign-op> and the space behind it
unfoldable pub kind_text : Kind → List ℕ
kind_text assign = ascii "assign "
kind_text increase = ascii "increase "
kind_text decrease = ascii "decrease "

unfoldable pub change_text : Change → List ℕ
change_text (gain p) = atom_text p
change_text (lose p) = ascii "(not " ++ atom_text p ++ ascii ")"
change_text (alter k v e) = ascii "(" ++ kind_text k ++ head_text v ++ ascii " " ++ expression_text e ++ ascii ")"

-- a list up to its closing bracket: each element on a line of its own, so far to the right
unfoldable pub lines : {A : Type 0} → String → (A → List ℕ) → List A → List ℕ
lines indent print [] = ascii ")"
lines indent print (x ∷ xs) = ascii "\n" ++ ascii indent ++ print x ++ lines indent print xs

unfoldable pub action_text : Action → List ℕ
action_text a =
    ascii "(:action a"
    ++ decimal a.name
    ++ ascii "\n    :parameters ()\n    :precondition (and"
    ++ lines "      " formula_text a.conditions
    ++ ascii "\n    :effect (and"
    ++ lines "      " change_text a.changes
    ++ ascii ")"

-- a list of declarations, left out where it is empty
unfoldable pub declarations : String → (ℕ → List ℕ) → List ℕ → List ℕ
declarations word print [] = []
declarations word print (n ∷ ns) = ascii word ++ lines "    " print (n ∷ ns)

unfoldable pub domain_text : Domain → List ℕ
domain_text d =
    ascii "(define (domain campaign)\n  (:requirements :strips :fluents)"
    ++ declarations "\n  (:predicates" atom_text d.predicates
    ++ declarations "\n  (:functions" head_text d.functions
    ++ lines "  " action_text d.actions
    ++ ascii "\n"

unfoldable pub fact_text : Fact → List ℕ
fact_text (given p) = atom_text p
fact_text (equals v z) = ascii "(= " ++ head_text v ++ ascii " " ++ number_text z ++ ascii ")"

unfoldable pub problem_text : Problem → List ℕ
problem_text p =
    ascii "(define (problem start)\n  (:domain campaign)\n  (:init"
    ++ lines "    " fact_text p.init
    ++ ascii "\n  (:goal (and"
    ++ lines "    " formula_text p.goal
    ++ ascii "))\n"

-- ---- what stands for each command: "which command each form stands for"

-- "57 v w: one term": + and * take two operands, so a sum is (+ (* w (v)) ..) down to its constant
unfoldable pub sum_of : List Term → ℤ → Expression
sum_of [] c = number c
sum_of (t ∷ ts) c = plus (times (number t.weight) (fluent t.var)) (sum_of ts c)

-- "43 o c: closes the terms before it into a condition, sum against c"
unfoldable pub compare_of : Condition → Formula
compare_of c = compare c.comparison (sum_of c.terms (pos 0)) (number c.bound)

-- "46 k v c: closes the terms before it into an effect on v with value sum + c"
unfoldable pub alter_of : Effect → Change
alter_of e = alter e.kind e.var (sum_of e.terms e.base)

-- "the conditions and the effects of each in the same order": those of a block, each in the block's order
unfoldable pub formulas_of : Block → List Formula
formulas_of [] = []
formulas_of (need p ∷ b) = atom p ∷ formulas_of b
formulas_of (add p ∷ b) = formulas_of b
formulas_of (delete p ∷ b) = formulas_of b
formulas_of (condition c ∷ b) = compare_of c ∷ formulas_of b
formulas_of (effect e ∷ b) = formulas_of b

unfoldable pub changes_of : Block → List Change
changes_of [] = []
changes_of (need p ∷ b) = changes_of b
changes_of (add p ∷ b) = gain p ∷ changes_of b
changes_of (delete p ∷ b) = lose p ∷ changes_of b
changes_of (condition c ∷ b) = changes_of b
changes_of (effect e ∷ b) = alter_of e ∷ changes_of b

unfoldable pub action_of : ℕ → Block → Action
action_of n b = record { name = n; conditions = formulas_of b; changes = changes_of b }

-- the moves, named a0 and so on
unfoldable pub actions_from : ℕ → List Block → List Action
actions_from n [] = []
actions_from n (b ∷ bs) = action_of n b ∷ actions_from (suc n) bs

unfoldable pub domain_of : Task → Domain
domain_of k =
    record {
      predicates = tabulate (λ p. p) 0 k.props;
      functions = tabulate (λ v. v) 0 k.vars;
      actions = actions_from 0 k.moves;
    }

-- the state as `:init`: the true ones of n propositions, from p on, then each variable's value
unfoldable pub truths : State → ℕ → ℕ → List Fact
truths s p zero = []
truths s p (suc n) = elim (s.has p) [ true ↦ given p ∷ truths s (suc p) n | false ↦ truths s (suc p) n ]

unfoldable pub values : State → ℕ → List Fact
values s vars = tabulate (λ v. equals v (s.val v)) 0 vars

unfoldable pub problem_of : Task → State → Problem
problem_of k s = record { init = truths s 0 k.props ++ values s k.vars; goal = formulas_of k.goal }

-- "Write a written table and a state as PDDL 2.1 text, a domain and a problem"
unfoldable pub task_text : Task → State → List ℕ
task_text k s = domain_text (domain_of k) ++ problem_text (problem_of k s)

-- ---- the call: the checks of the table, of the state, then 13

unfoldable pub text_with_state : Task → List ℕ → Option Refusal → Output
text_with_state k bs (some r) = turns r
text_with_state k bs none = writes (task_text k (state_of k.props bs))

unfoldable pub text_of : Limits → Verdict → List ℕ → Output
text_of L (refused r) bs = turns r
text_of L (accepted k) bs = text_with_state k.task bs (state_refusal L k.task.props k.task.vars bs)

unfoldable pub pddl_text : Limits → List ℕ → List ℕ → ℕ → Output
pddl_text L t bs size = fitted size (text_of L (reading L (only written) t) bs)

unfoldable pub pddl_answer : Limits → List ℕ → List ℕ → List ℕ → Result ℕ Refusal
pddl_answer L t bs out = write_answer (pddl_text L t bs (length out))

unfoldable pub pddl_out : Limits → List ℕ → List ℕ → List ℕ → List ℕ
pddl_out L t bs out = output_after (pddl_text L t bs (length out)) out
