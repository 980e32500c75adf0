-- PDDL text is one to one: tables with states that give the same text have the same state, moves and goal, the conditions and the
-- effects of each in the same order; and where these are the same, so is the text. Assumes nothing.
use Rattle.std.specs.Prelude.{ℕ, zero, suc, ◌+◌, ◌<◌, ◌≡◌, refl, Bool, true, false, ℤ, pos}
use Rattle.std.proofs.Common.{arith, ap₂, ◌∙◌, subst}
use Rattle.std.proofs.Math.Path.{sym, ap}
use mathlib.Core.List.{List, [], ◌∷◌, ◌++◌, map, head-eq_of_cons-eq, tail-eq_of_cons-eq}
use Rattle.std.proofs.Math.ListN.{length}
use Rattle.model.specs.Lists.{tabulate}
use Rattle.model.specs.Task.{Term, Item, need, add, delete, condition, effect, Block, Task}
use Rattle.model.specs.Move.{State}
use Rattle.model.specs.Pddl.{Expression, number, fluent, plus, times, Formula, atom, compare, Change, gain, lose, alter, Action, Domain, Fact, given, equals, Problem, domain_text, problem_text, sum_of, compare_of, alter_of, formulas_of, changes_of, action_of, actions_from, domain_of, truths, values, problem_of, task_text}
use Rattle.model.specs.PddlMeaning.{Initial}
use Rattle.model.proofs.Theorems.Laws.Searching.{length_tabulate, tabulate_same}
use Rattle.model.specs.Theorems.Reading.WellFormed.{All, GoalItem}
use Rattle.model.specs.Theorems.Reading.Agreeing.{AgreeBelow}
use Rattle.model.proofs.Theorems.Pddl.Plans.{initial_agrees, trimmed, initial_exists}
use Rattle.model.proofs.Theorems.Pddl.Documents.{one_document}
use Rattle.model.specs.Theorems.Pddl.Text.{Same, conditions_of, effects_of}

-- the goal has conditions only
pub whole_goal : (b : Block) → All GoalItem b → conditions_of b ≡ b
unfolding conditions_of
whole_goal [] a = refl
whole_goal (need p ∷ b) a = ap (λ (c : Block). need p ∷ c) (whole_goal b a.1)
whole_goal (add p ∷ b) a = absurd a.0
whole_goal (delete p ∷ b) a = absurd a.0
whole_goal (condition c ∷ b) a = ap (λ (d : Block). condition c ∷ d) (whole_goal b a.1)
whole_goal (effect e ∷ b) a = absurd a.0

-- ---- commands read back from their forms
number_in : Expression → ℤ
number_in (number z) = z
number_in (fluent v) = pos 0
number_in (plus e f) = number_in f
number_in (times e f) = number_in e

fluent_in : Expression → ℕ
fluent_in (number z) = 0
fluent_in (fluent v) = v
fluent_in (plus e f) = 0
fluent_in (times e f) = fluent_in f

terms_in : Expression → List Term
terms_in (number z) = []
terms_in (fluent v) = []
terms_in (plus e f) = record { var = fluent_in e; weight = number_in e } ∷ terms_in f
terms_in (times e f) = []

terms_back : (ts : List Term) (c : ℤ) → terms_in (sum_of ts c) ≡ ts
unfolding sum_of terms_in fluent_in number_in
terms_back [] c = refl
terms_back (t ∷ ts) c = ap (λ (l : List Term). t ∷ l) (terms_back ts c)

number_back : (ts : List Term) (c : ℤ) → number_in (sum_of ts c) ≡ c
unfolding sum_of number_in
number_back [] c = refl
number_back (t ∷ ts) c = number_back ts c

formula_item : Formula → Item
formula_item (atom p) = need p
formula_item (compare o e f) = condition (record { terms = terms_in e; comparison = o; bound = number_in f })

change_item : Change → Item
change_item (gain p) = add p
change_item (lose p) = delete p
change_item (alter k v e) = effect (record { kind = k; var = v; terms = terms_in e; base = number_in e })

conditions_back : (b : Block) → map formula_item (formulas_of b) ≡ conditions_of b
unfolding formulas_of conditions_of formula_item compare_of number_in
conditions_back [] = refl
conditions_back (need p ∷ b) = ap (λ (l : Block). need p ∷ l) (conditions_back b)
conditions_back (add p ∷ b) = conditions_back b
conditions_back (delete p ∷ b) = conditions_back b
conditions_back (condition c ∷ b) =
    λ i.
    condition (record { terms = terms_back c.terms (pos 0) i; comparison = c.comparison; bound = c.bound })
    ∷ conditions_back b i
conditions_back (effect e ∷ b) = conditions_back b

effects_back : (b : Block) → map change_item (changes_of b) ≡ effects_of b
unfolding changes_of effects_of change_item alter_of
effects_back [] = refl
effects_back (need p ∷ b) = effects_back b
effects_back (add p ∷ b) = ap (λ (l : Block). add p ∷ l) (effects_back b)
effects_back (delete p ∷ b) = ap (λ (l : Block). delete p ∷ l) (effects_back b)
effects_back (condition c ∷ b) = effects_back b
effects_back (effect e ∷ b) =
    λ i.
    effect (record {
      kind = e.kind;
      var = e.var;
      terms = terms_back e.terms e.base i;
      base = number_back e.terms e.base i;
    })
    ∷ effects_back b i

abbrev action_conditions : Action → Block
action_conditions a = map formula_item a.conditions

abbrev action_effects : Action → Block
action_effects a = map change_item a.changes

moves_conditions : (n : ℕ) (ms : List Block) → map action_conditions (actions_from n ms) ≡ map conditions_of ms
unfolding actions_from action_of
moves_conditions n [] = refl
moves_conditions n (m ∷ ms) = λ i. conditions_back m i ∷ moves_conditions (suc n) ms i

moves_effects : (n : ℕ) (ms : List Block) → map action_effects (actions_from n ms) ≡ map effects_of ms
unfolding actions_from action_of
moves_effects n [] = refl
moves_effects n (m ∷ ms) = λ i. effects_back m i ∷ moves_effects (suc n) ms i

-- ---- tables and states
module _ (k n : Task) (s t : State) (e : task_text k s ≡ task_text n t) where
  both : (domain_of k ≡ domain_of n) × (problem_of k s ≡ problem_of n t)
  unfolding task_text
  both = one_document (domain_of k) (domain_of n) (problem_of k s) (problem_of n t) e

  same_props : k.props ≡ n.props
  unfolding domain_of
  same_props =
      sym (length_tabulate (λ (p : ℕ). p) 0 k.props)
      ∙ ap (λ (d : Domain). length d.predicates) both.0
      ∙ length_tabulate (λ (p : ℕ). p) 0 n.props

  same_vars : k.vars ≡ n.vars
  unfolding domain_of
  same_vars =
      sym (length_tabulate (λ (v : ℕ). v) 0 k.vars)
      ∙ ap (λ (d : Domain). length d.functions) both.0
      ∙ length_tabulate (λ (v : ℕ). v) 0 n.vars

  same_actions : actions_from 0 k.moves ≡ actions_from 0 n.moves
  unfolding domain_of
  same_actions = ap (λ (d : Domain). d.actions) both.0

  -- an initial state of the one text is one of the other
  same_state : AgreeBelow k.props k.vars s t
  same_state =
      let x = trimmed k s in
      let start : Initial (problem_of k s).init x = initial_exists k s in
      let of-s = initial_agrees k s x start in
      let of-t = initial_agrees n t x (subst (λ (p : Problem). Initial p.init x) both.1 start) in
      record {
        has = λ p h. sym (of-s.has p h) ∙ of-t.has p (omega (arith, same_props));
        val = λ v h. sym (of-s.val v h) ∙ of-t.val v (omega (arith, same_vars));
      }

  same_goal : conditions_of k.goal ≡ conditions_of n.goal
  unfolding problem_of
  same_goal =
      sym (conditions_back k.goal) ∙ ap (λ (p : Problem). map formula_item p.goal) both.1 ∙ conditions_back n.goal

  -- "Two tables with states that give the same text have the same state, moves and goal, the conditions and the effects of each in
  -- the same order."
  pub one_text : Same k n s t
  one_text =
      record {
        props = same_props;
        vars = same_vars;
        state = same_state;
        conditions =
            sym (moves_conditions 0 k.moves) ∙ ap (map action_conditions) same_actions ∙ moves_conditions 0 n.moves;
        effects = sym (moves_effects 0 k.moves) ∙ ap (map action_effects) same_actions ∙ moves_effects 0 n.moves;
        goal = same_goal;
      }

-- ---- the other way round
formulas_kept : (b : Block) → formulas_of (conditions_of b) ≡ formulas_of b
unfolding formulas_of conditions_of
formulas_kept [] = refl
formulas_kept (need p ∷ b) = ap (λ (l : List Formula). atom p ∷ l) (formulas_kept b)
formulas_kept (add p ∷ b) = formulas_kept b
formulas_kept (delete p ∷ b) = formulas_kept b
formulas_kept (condition c ∷ b) = ap (λ (l : List Formula). compare_of c ∷ l) (formulas_kept b)
formulas_kept (effect e ∷ b) = formulas_kept b

changes_kept : (b : Block) → changes_of (effects_of b) ≡ changes_of b
unfolding changes_of effects_of
changes_kept [] = refl
changes_kept (need p ∷ b) = changes_kept b
changes_kept (add p ∷ b) = ap (λ (l : List Change). gain p ∷ l) (changes_kept b)
changes_kept (delete p ∷ b) = ap (λ (l : List Change). lose p ∷ l) (changes_kept b)
changes_kept (condition c ∷ b) = changes_kept b
changes_kept (effect e ∷ b) = ap (λ (l : List Change). alter_of e ∷ l) (changes_kept b)

formulas_same : (b c : Block) → conditions_of b ≡ conditions_of c → formulas_of b ≡ formulas_of c
formulas_same b c e = sym (formulas_kept b) ∙ ap formulas_of e ∙ formulas_kept c

changes_same : (b c : Block) → effects_of b ≡ effects_of c → changes_of b ≡ changes_of c
changes_same b c e = sym (changes_kept b) ∙ ap changes_of e ∙ changes_kept c

actions_same :
    (n : ℕ) (ms ns : List Block)
    → map conditions_of ms ≡ map conditions_of ns
    → map effects_of ms ≡ map effects_of ns
    → actions_from n ms ≡ actions_from n ns
unfolding actions_from action_of
actions_same n [] [] c e = refl
actions_same n [] (b ∷ ns) c e = absurd (omega (arith, ap length c))
actions_same n (a ∷ ms) [] c e = absurd (omega (arith, ap length c))
actions_same n (a ∷ ms) (b ∷ ns) c e =
    λ i.
    record {
      name = n;
      conditions = formulas_same a b (head-eq_of_cons-eq c) i;
      changes = changes_same a b (head-eq_of_cons-eq e) i;
    }
    ∷ actions_same (suc n) ms ns (tail-eq_of_cons-eq c) (tail-eq_of_cons-eq e) i

truths_same : (s t : State) (p n : ℕ) → ((i : ℕ) → i < p + n → s.has i ≡ t.has i) → truths s p n ≡ truths t p n
unfolding truths
truths_same s t p zero h = refl
truths_same s t p (suc n) h =
    ap₂ (λ (b : Bool) (l : List Fact). elim b [ true ↦ given p ∷ l | false ↦ l ]) (h p (omega arith))
    (truths_same s t (suc p) n (λ i k. h i (omega arith)))

-- So the text shows all of `Same` and no more: of a block it leaves out only how conditions and effects are mixed.
pub same_one_text : (k n : Task) (s t : State) → Same k n s t → task_text k s ≡ task_text n t
unfolding task_text domain_of problem_of values
same_one_text k n s t e =
    let truths-are = truths_same s t 0 k.props (λ p h. e.state.has p (omega arith)) ∙ ap (truths t 0) e.props in
    let values-are =
    tabulate_same (λ v. equals v (s.val v)) (λ v. equals v (t.val v)) 0 k.vars (λ v h l. ap (equals v) (e.state.val v (omega arith)))
    ∙ ap (tabulate (λ v. equals v (t.val v)) 0) e.vars
    in
    ap₂ (λ (d : Domain) (p : Problem). domain_text d ++ problem_text p)
    (λ i.
    record {
      predicates = tabulate (λ p. p) 0 (e.props i);
      functions = tabulate (λ v. v) 0 (e.vars i);
      actions = actions_same 0 k.moves n.moves e.conditions e.effects i;
    })
    (λ i. record { init = truths-are i ++ values-are i; goal = formulas_same k.goal n.goal e.goal i })
