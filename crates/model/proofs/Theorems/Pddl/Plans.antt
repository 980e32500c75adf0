-- The plans of the text, by PDDL 2.1, are the lists that solve the task from the state. Assumes nothing.
use Rattle.std.specs.Prelude.{ℕ, zero, suc, ◌+◌, ◌<◌, ◌≡◌, ◌↔◌, ◌&&◌, ltb, length, get_or}
use Rattle.std.proofs.Common.{zero-add, add-zero, add-suc, suc-add, arith, ap, ◌∙◌, inl, inr, ltb→lt, lt→ltb}
use Rattle.std.proofs.Math.Path.{refl, sym, subst}
use mathlib.Core.List.{List, [], ◌∷◌}
use Rattle.model.specs.Limits.{Limits}
use Rattle.model.specs.Lists.{In}
use Rattle.model.specs.Task.{Form, Block, Task}
use Rattle.model.specs.Move.{State, real, move_at, Solves}
use Rattle.model.specs.Pddl.{Action, formulas_of, changes_of, action_of, actions_from, domain_of, problem_of}
use Rattle.model.specs.PddlMeaning.{SatisfiesAll, Follows, Leads, Initial, IsPlan}
use Rattle.model.specs.Theorems.Reading.WellFormed.{TaskOk}
use Rattle.model.specs.Theorems.Reading.Agreeing.{AgreeBelow}
use Rattle.model.proofs.Theorems.Reading.Agreeing.{agree_solves}
use Rattle.model.proofs.Theorems.Laws.Booleans.{T-stable, T-equal, and_left, and_right, and_both}
use Rattle.model.proofs.Theorems.Layers.NextLayer.{move_ok}
use Rattle.model.proofs.Theorems.Pddl.Facts.{in_given, given_in, in_equals, equals_in}
use Rattle.model.proofs.Theorems.Pddl.Meaning.{block_true}
use Rattle.model.proofs.Theorems.Pddl.Changes.{follows_real}

-- ---- actions by their names

-- the action of move i, where the moves are named from n on
abbrev action : ℕ → List Block → ℕ → Action
action n ms i = action_of (n + i) (get_or ms i [])

-- move i + 1 from n on is move i from n + 1 on
later_action : (n : ℕ) (m : Block) (ms : List Block) (i : ℕ) → action (suc n) ms i ≡ action n (m ∷ ms) (suc i)
later_action n m ms i = ap (λ (j : ℕ). action_of j (get_or ms i [])) (suc-add n i ∙ sym (add-suc n i))

action_in : (n : ℕ) (ms : List Block) (i : ℕ) → i < length ms → In (action n ms i) (actions_from n ms)
unfolding actions_from
action_in n [] i h = absurd (omega arith)
action_in n (m ∷ ms) zero h = inl (ap (λ (j : ℕ). action_of j m) (add-zero n))
action_in n (m ∷ ms) (suc i) h =
    inr
    (subst (λ (a : Action). In a (actions_from (suc n) ms)) (later_action n m ms i) (action_in (suc n) ms i (omega arith)))

in_actions :
    {X : Type 0} (a : Action) (n : ℕ) (ms : List Block)
    → In a (actions_from n ms)
    → ((i : ℕ) → i < length ms → a ≡ action n ms i → X)
    → X
unfolding actions_from
in_actions a n [] t g = absurd t
in_actions a n (m ∷ ms) (inl e) g = g 0 (omega arith) (e ∙ ap (λ (j : ℕ). action_of j m) (sym (add-zero n)))
in_actions a n (m ∷ ms) (inr t) g =
    in_actions a (suc n) ms t (λ i h e. g (suc i) (omega arith) (e ∙ later_action n m ms i))

-- the action with name b is that of move b
action_named :
    (a : Action) (b : ℕ) (ms : List Block)
    → In a (actions_from 0 ms)
    → a.name ≡ b
    → (b < length ms) × (a ≡ action_of b (get_or ms b []))
unfolding action_of
action_named a b ms t n =
    in_actions a 0 ms t
    (λ i h e.
    let same : i ≡ b = omega (arith, ap (λ (c : Action). c.name) e) in (
      omega arith,
      subst (λ (j : ℕ). a ≡ action_of j (get_or ms j [])) same (e ∙ ap (λ (j : ℕ). action_of j (get_or ms i [])) (zero-add i)),
    ))

-- ---- from one state
module _ {L : Limits} {f : Form} {k : Task} (ok : TaskOk L f k) where
  leads_solves : (bs : List ℕ) (s : State) → Leads (domain_of k) (formulas_of k.goal) s bs → Solves real k s bs
  unfolding domain_of move_at action_of
  leads_solves [] s l = (block_true s k.goal).0 l
  leads_solves (b ∷ bs) s l =
      let m = move_at k b in
      let named = action_named l.0 b k.moves l.1 l.2 in
      let conditions : SatisfiesAll s (formulas_of m) = subst (λ (a : Action). SatisfiesAll s a.conditions) named.1 l.3 in
      let after : Follows s (changes_of m) l.4 = subst (λ (a : Action). Follows s a.changes l.4) named.1 l.5 in
      let moved : l.4 ≡ real m s = (follows_real s m (move_ok ok b named.0).once l.4).0 after in (
        named.0,
        (block_true s m).0 conditions,
        leads_solves bs (real m s) (subst (λ (t : State). Leads (domain_of k) (formulas_of k.goal) t bs) moved l.6),
      )

  solves_leads : (bs : List ℕ) (s : State) → Solves real k s bs → Leads (domain_of k) (formulas_of k.goal) s bs
  unfolding domain_of move_at action_of
  solves_leads [] s h = (block_true s k.goal).1 h
  solves_leads (b ∷ bs) s h =
      let m = move_at k b in (
        action_of b m,
        subst (λ (j : ℕ). In (action_of j m) (actions_from 0 k.moves)) (zero-add b) (action_in 0 k.moves b h.0),
        refl,
        (block_true s m).1 h.1,
        real m s,
        (follows_real s m (move_ok ok b h.0).once (real m s)).1 refl,
        solves_leads bs (real m s) h.2,
      )

-- ---- from the initial state
module _ (k : Task) (s : State) where
  -- an initial state of the text agrees with the state on all that is declared
  pub initial_agrees : (t : State) → Initial (problem_of k s).init t → AgreeBelow k.props k.vars t s
  unfolding problem_of
  initial_agrees t i =
      record {
        has = λ p h.
            T-equal (t.has p) (s.has p)
            (λ yes-t.
            T-stable (s.has p)
            (λ no-s. i.others p (λ listed. no-s (given_in s k.props k.vars p listed).1) yes-t))
            (λ yes-s. i.listed p (in_given s k.props k.vars p h yes-s));
        val = λ v h. i.values v (s.val v) (in_equals s k.props k.vars v h);
      }

  -- there is one: the state with nothing true beyond what is declared
  unfoldable pub trimmed : State
  trimmed = record { has = λ p. ltb p k.props && s.has p; val = s.val }

  pub initial_exists : Initial (problem_of k s).init trimmed
  unfolding problem_of trimmed
  initial_exists =
      record {
        listed = λ p t.
            let known = given_in s k.props k.vars p t in
            and_both (ltb p k.props) (s.has p) (lt→ltb p k.props known.0) known.1;
        others = λ p n t.
            n
            (in_given s k.props k.vars p (ltb→lt p k.props (and_left (ltb p k.props) (s.has p) t))
            (and_right (ltb p k.props) (s.has p) t));
        values = λ v z t. sym (equals_in s k.props k.vars v z t).1;
      }

  -- A list of actions' names is a plan of the text's domain and problem exactly when the list of moves solves the task.
  pub plan_solves :
      {L : Limits} {f : Form} → TaskOk L f k
      → (bs : List ℕ) → IsPlan (domain_of k) (problem_of k s) bs ↔ Solves real k s bs
  unfolding problem_of
  plan_solves ok bs = (
    λ plan.
        (agree_solves ok bs (initial_agrees plan.start plan.initial)).0
        (leads_solves ok bs plan.start (plan.leads plan.start plan.initial)),
    λ solved.
        record {
          start = trimmed;
          initial = initial_exists;
          leads = λ t i. solves_leads ok bs t ((agree_solves ok bs (initial_agrees t i)).1 solved);
        },
  )
